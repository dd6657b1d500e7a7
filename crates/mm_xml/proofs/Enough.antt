-- However many steps are counted, if they are enough, the same is read.
use Rattle.std.proofs.Common.{◌≡◌, refl, sym, ap, ◌∙◌, ℕ, zero, suc, ◌<◌, ◌≤◌, Bool, true, false, cond, eqb, List, [], ◌∷◌, ◌++◌, length, Option, Some, None, arith}
use Rattle.std.proofs.lemmas.List.{length-append}
use Rattle.mm_tree.specs.declared.Kind.{Kind}
use Rattle.mm_tree.specs.Trees.{Tree}
use Rattle.mm_tree.specs.Characters.{is_space}
use Rattle.mm_xml.specs.Letters.{is_gap}
use Rattle.mm_xml.specs.Syntax.{Part, Literal, Reference, spelled_part, Written, spelled_written, Token, Data, Section, Comment, Instruction, Start, Close, Doctype, spelled}
use Rattle.mm_xml.specs.Inside.Lexing.{◌>>=◌, Found, span, part_at, parts_at, written_at, attributes_at, starts_name, token_at}
use Rattle.mm_xml.specs.Inside.Telling.{Sign, told, tell}
use Rattle.mm_xml.specs.Inside.Machine.{State, Order, sign_may, sign_next, sign_step, finish_step, read_from}
use Rattle.mm_xml.proofs.Spans.{some, span_whole}
use Rattle.mm_xml.proofs.Parts.{part_takes}
use Rattle.mm_xml.proofs.Attributes.{written_takes}
use Rattle.mm_xml.proofs.Content.{token_takes}

-- ---- what is read takes a character

part_len : (p : Part) → 0 < length (spelled_part p)
part_len (Literal c) = omega arith
part_len (Reference body) = omega arith

part_shorter : (cs : List ℕ) (x : Part × List ℕ) → part_at cs ≡ Some x → length x.1 < length cs
part_shorter cs x e = omega (arith, ap length (part_takes cs x e).parts, length-append (spelled_part x.0) x.1, part_len x.0)

token_len : (t : Token) → 0 < length (spelled t)
token_len (Data p) = part_len p
token_len (Section cs) = omega arith
token_len (Comment cs) = omega arith
token_len (Instruction name cs) = omega arith
token_len (Start empty name attributes gap) = omega arith
token_len (Close name gap) = omega arith
token_len (Doctype gap name ext after) = omega arith

pub token_shorter : (cs : List ℕ) (x : Token × List ℕ) → token_at cs ≡ Some x → length x.1 < length cs
token_shorter cs x e = omega (arith, ap length (token_takes cs x e).parts, length-append (spelled x.0) x.1, token_len x.0)

filled : (a b c d : List ℕ) → 0 < length d → 0 < length (a ++ (b ++ (c ++ d)))
filled a b c d h = omega (arith, h, length-append a (b ++ (c ++ d)), length-append b (c ++ d), length-append c d)

written_len : (a : Written) → 0 < length (spelled_written a)
written_len a = filled a.gap a.name a.before _ (omega arith)

written_shorter : (gap cs : List ℕ) (x : Written × List ℕ) → is_gap gap ≡ true → written_at gap cs ≡ Some x → length x.1 < length (gap ++ cs)
written_shorter gap cs x g e = omega (arith, ap length (written_takes gap cs x g e).parts, length-append (spelled_written x.0) x.1, written_len x.0)

-- ---- the parts of a value

abbrev parts_then : ℕ → ℕ → Part × List ℕ → Found (List Part)
parts_then n q x = parts_at n q x.1 >>= λ y. Some (x.0 ∷ y.0, y.1)

no_parts : (n q : ℕ) → parts_at n q [] ≡ None
no_parts zero q = refl
no_parts (suc n) q = refl

then_parts : (n m q : ℕ) (o : Found Part) → ((x : Part × List ℕ) → o ≡ Some x → parts_at n q x.1 ≡ parts_at m q x.1) → (o >>= λ x. parts_then n q x) ≡ (o >>= λ x. parts_then m q x)
then_parts n m q None same = refl
then_parts n m q (Some x) same = ap (λ (o : Found (List Part)). o >>= λ y. some (x.0 ∷ y.0, y.1)) (same x refl)

pub parts_enough : (n m q : ℕ) (cs : List ℕ) → length cs ≤ n → length cs ≤ m → parts_at n q cs ≡ parts_at m q cs
parts_enough n m q [] h k = no_parts n q ∙ sym (no_parts m q)
parts_enough zero m q (c ∷ cs) h k = absurd (omega (arith, h))
parts_enough (suc n) zero q (c ∷ cs) h k = absurd (omega (arith, k))
parts_enough (suc n) (suc m) q (c ∷ cs) h k = ap (λ (o : Found (List Part)). cond (eqb c q) (some ([], cs)) o) (then_parts n m q (part_at (c ∷ cs)) (λ x e. let less = part_shorter (c ∷ cs) x e in parts_enough n m q x.1 (omega (arith, h, less)) (omega (arith, k, less))))

-- ---- the attributes of a start tag

abbrev attributes_then : ℕ → Written × List ℕ → Found (List Written)
attributes_then n w = attributes_at n w.1 >>= λ y. Some (w.0 ∷ y.0, y.1)

no_attributes : (n : ℕ) → attributes_at n [] ≡ Some ([], [])
no_attributes zero = refl
no_attributes (suc n) = refl

gapped : {X : Type 0} {a b : Option X} (t : Bool) → (t ≡ true → a ≡ b) → cond t a None ≡ cond t b None
gapped true e = e refl
gapped false e = refl

then_attributes : (n m : ℕ) (o : Found Written) → ((x : Written × List ℕ) → o ≡ Some x → attributes_at n x.1 ≡ attributes_at m x.1) → (o >>= λ w. attributes_then n w) ≡ (o >>= λ w. attributes_then m w)
then_attributes n m None same = refl
then_attributes n m (Some x) same = ap (λ (o : Found (List Written)). o >>= λ y. some (x.0 ∷ y.0, y.1)) (same x refl)

pub attributes_enough : (n m : ℕ) (cs : List ℕ) → length cs ≤ n → length cs ≤ m → attributes_at n cs ≡ attributes_at m cs
attributes_enough n m [] h k = no_attributes n ∙ sym (no_attributes m)
attributes_enough zero m (c ∷ cs) h k = absurd (omega (arith, h))
attributes_enough (suc n) zero (c ∷ cs) h k = absurd (omega (arith, k))
attributes_enough (suc n) (suc m) (c ∷ cs) h k =
    let gap = (span is_space (c ∷ cs)).0 in
    let more = (span is_space (c ∷ cs)).1 in
    ap (λ (o : Found (List Written)). cond (starts_name more) o (some ([], c ∷ cs))) (gapped (is_gap gap) (λ g. then_attributes n m (written_at gap more) (λ x e.
    let less : length x.1 < suc (length cs) = omega (arith, written_shorter gap more x g e, ap length (span_whole is_space (c ∷ cs))) in
    attributes_enough n m x.1 (omega (arith, h, less)) (omega (arith, k, less)))))

-- ---- the tokens

abbrev read_then : ℕ → State → List ℕ → Order → Sign × List ℕ → Option (Tree Kind)
read_then n s run o x = cond (sign_may o x.0) (sign_step s run x.0 >>= λ y. read_from n y.0 y.1 (sign_next o x.0) x.1) None

nothing_more : (n : ℕ) (s : State) (run : List ℕ) (o : Order) → read_from n s run o [] ≡ finish_step s run
nothing_more zero s run o = refl
nothing_more (suc n) s run o = refl

moved : (n m : ℕ) (may : Bool) (place : Option (State × List ℕ)) (next : Order) (rest : List ℕ) → ((y : State × List ℕ) → read_from n y.0 y.1 next rest ≡ read_from m y.0 y.1 next rest)
    → cond may (place >>= λ y. read_from n y.0 y.1 next rest) None ≡ cond may (place >>= λ y. read_from m y.0 y.1 next rest) None
moved n m false place next rest same = refl
moved n m true None next rest same = refl
moved n m true (Some y) next rest same = same y

each_token : (n m : ℕ) (s : State) (run : List ℕ) (o : Order) (found : Found Token)
    → ((x : Token × List ℕ) → found ≡ Some x → (y : State × List ℕ) (next : Order) → read_from n y.0 y.1 next x.1 ≡ read_from m y.0 y.1 next x.1)
    → (tell found >>= λ x. read_then n s run o x) ≡ (tell found >>= λ x. read_then m s run o x)
each_token n m s run o None same = refl
each_token n m s run o (Some x) same = moved n m (sign_may o (told x.0)) (sign_step s run (told x.0)) (sign_next o (told x.0)) x.1 (λ y. same x refl y (sign_next o (told x.0)))

pub read_enough : (n m : ℕ) (s : State) (run : List ℕ) (o : Order) (cs : List ℕ) → length cs ≤ n → length cs ≤ m → read_from n s run o cs ≡ read_from m s run o cs
read_enough n m s run o [] h k = nothing_more n s run o ∙ sym (nothing_more m s run o)
read_enough zero m s run o (c ∷ cs) h k = absurd (omega (arith, h))
read_enough (suc n) zero s run o (c ∷ cs) h k = absurd (omega (arith, k))
read_enough (suc n) (suc m) s run o (c ∷ cs) h k =
    each_token n m s run o (token_at (c ∷ cs)) (λ x e y next. let less = token_shorter (c ∷ cs) x e in read_enough n m y.0 y.1 next x.1 (omega (arith, h, less)) (omega (arith, k, less)))
