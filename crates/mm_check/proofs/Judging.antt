-- The pieces of a node that is read: which of them is wrong, and what is named where the content ends.
use Rattle.std.proofs.Common.{◌≡◌, ℕ, ℤ, zero, suc, ◌+◌, ◌-◌, ◌*◌, ◌<◌, ◌≤◌, Bool, true, false, cond, ◌&&◌, not, List, [], ◌∷◌, ◌++◌, length, take, drop, refl, ap, ap₂, sym, ◌∙◌, Option, Some, None, Result, Ok, Err, arith}
use Rattle.std.specs.Prelude.{◌==◌, min, nat_le, nat_lt}
use Rattle.std.proofs.lemmas.Bool.{and_parts}
use Rattle.std.proofs.lemmas.Bool.Decides.{nat_tests}
use Rattle.std.proofs.lemmas.List.{drop_at, length-append, length-drop, take-append-drop, take_all}
use Rattle.mm_keeper.specs.Entries.{Entries, Entry}
use Rattle.mm_tree.specs.declared.plain.Kind.{Kind}
use Rattle.mm_tree.specs.declared.plain.Kind.TheVariants.{Element, Words}
use Rattle.mm_tree.specs.Numbering.{Labelled}
use Rattle.mm_image.specs.Content.{piece_limit}
use Rattle.mm_image.specs.Fields.{Field, Short, Wrong, Right, ◌>>=◌, attributes_at, element_at, ended as ended_field, is_text, is_wrong, kind_in, kind_told, may_stand, name_at, number_at, standing}
use Rattle.mm_image.specs.Keys.{chunk_key}
use Rattle.mm_check.specs.declared.verdict.Named.{Named}
use Rattle.mm_check.specs.Reading.{Open, Place, Progress, ◌&>◌, begins_text, continued, ended, is_piece, kind_of, last_piece, next_piece, not_due, ok_if, read}
use Rattle.mm_check.specs.Inside.Reader.{may_follow, or_named, unfinished, unless_wrong, wrong_from, wrong_in}
use Rattle.mm_check.proofs.Lasting.{drop_front, take_front, wrong_stays}
use Rattle.mm_check.proofs.Parts.{no_more, same_number}
use Rattle.mm_check.proofs.Running.{kind_back}

-- ---- what is named first

pub unless_named : {A : Type 0} (w : Option Named) (n : Named) → unless_wrong {A = A} w (Err n) ≡ Err (or_named w n)
unless_named None n = refl
unless_named (Some w) n = refl

-- ---- a content that is that of a kind has no wrong piece

no_stand : (bs : List ℕ) → may_stand bs ≡ false → standing bs ≡ Wrong
no_stand bs e = by (standing bs) refl e
  where
    by : (f : Field Kind) → standing bs ≡ f → not (is_wrong f) ≡ false → f ≡ Wrong
    by Short q e = absurd cc
    by Wrong q e = refl
    by (Right x r) q e = absurd cc

-- where the whole content isn't wrong, no front of it is
front_stands : (bs : List ℕ) (n : ℕ) → (standing bs ≡ Wrong → ⊥) → may_stand (take n bs) ≡ true
front_stands bs n h = by (may_stand (take n bs)) refl
  where
    by : (t : Bool) → may_stand (take n bs) ≡ t → t ≡ true
    by true q = refl
    by false q = absurd (h (ap standing (sym (take-append-drop n bs)) ∙ wrong_stays (take n bs) (drop n bs) (no_stand (take n bs) q)))

none_wrong : (label : List ℤ) (bs : List ℕ) (i n : ℕ) → (standing bs ≡ Wrong → ⊥) → wrong_from label bs i n ≡ None
none_wrong label bs i zero h = refl
none_wrong label bs i (suc n) h =
    ap (λ (t : Bool). cond t (wrong_from label bs (i + 1) n) (Some (not_due (chunk_key label i, take piece_limit (drop (piece_limit * i) bs))))) (front_stands bs (piece_limit * (i + 1)) h)
    ∙ none_wrong label bs (i + 1) n h

told_stands : (bs : List ℕ) (k : Kind) → kind_in bs ≡ Some k → standing bs ≡ Wrong → ⊥
told_stands bs k e w = let z : None ≡ Some k = sym (ap kind_told w) ∙ e in cc

pub whole_right : (o : Open) (k : Kind) → kind_in o.content ≡ Some k → wrong_in o ≡ None
whole_right o k e = none_wrong o.label o.content 0 (suc o.number) (told_stands o.content k e)

pub node_ended : (nodes : List Labelled) (o : Open) (k : Kind) → kind_in o.content ≡ Some k → unless_wrong (wrong_in o) (ended nodes (Some o)) ≡ Ok (record { label = o.label; kind = k } ∷ nodes)
node_ended nodes o k e =
    ap (λ (w : Option Named). unless_wrong w (ended nodes (Some o))) (whole_right o k e)
    ∙ ap (λ (r : Result Kind Named). (r &> λ kind. Ok (record { label = o.label; kind = kind })) &> λ e. Ok (e ∷ nodes)) (kind_back (standing o.content) o k e)

-- ---- the pieces of a content that isn't wrong so far

-- with a last piece from this place on
last_wrong : (label : List ℤ) (bs : List ℕ) (i n : ℕ) → 0 < n → length bs ≤ piece_limit * (i + n) → wrong_from label bs i n ≡ None → may_stand bs ≡ true
last_wrong label bs i zero p l e = absurd (omega arith)
last_wrong label bs i (suc zero) p l e =
    by (may_stand (take (piece_limit * (i + 1)) bs)) refl e
  where
    by : (t : Bool) → may_stand (take (piece_limit * (i + 1)) bs) ≡ t → cond t None (Some (not_due (chunk_key label i, take piece_limit (drop (piece_limit * i) bs)))) ≡ None → may_stand bs ≡ true
    by true q e = sym (ap may_stand (take_all (piece_limit * (i + 1)) bs l)) ∙ q
    by false q e = absurd cc
last_wrong label bs i (suc (suc n)) p l e = by (may_stand (take (piece_limit * (i + 1)) bs)) (last_wrong label bs (i + 1) (suc n) (omega arith) (more i n l)) e
  where
    more : (i n : ℕ) → length bs ≤ piece_limit * (i + suc (suc n)) → length bs ≤ piece_limit * (i + 1 + suc n)
    more i n l = omega arith

    by : (t : Bool) → (wrong_from label bs (i + 1) (suc n) ≡ None → may_stand bs ≡ true) → cond t (wrong_from label bs (i + 1) (suc n)) (Some (not_due (chunk_key label i, take piece_limit (drop (piece_limit * i) bs)))) ≡ None → may_stand bs ≡ true
    by true f e = f e
    by false f e = absurd cc

pub none_stands : (o : Open) → length o.content ≤ piece_limit * (o.number + 1) → wrong_in o ≡ None → may_stand o.content ≡ true
none_stands o l e = last_wrong o.label o.content 0 (suc o.number) (omega arith) (omega arith) e

-- ---- a content that is that of no kind

bound : {A : Type 0} (f : Field A) (g : A → List ℕ → Field Kind) (text r : List ℕ) → ((x : A) (s : List ℕ) → g x s ≡ Right (Words text) r → ⊥) → (f >>= g) ≡ Right (Words text) r → ⊥
bound Short g text r h e = cc
bound Wrong g text r h e = cc
bound (Right x s) g text r h e = h x s e

-- an element is no text
no_words : (bs text r : List ℕ) → element_at bs ≡ Right (Words text) r → ⊥
unfolding element_at
no_words bs text r e =
    bound (name_at [] bs) (λ name rest. number_at 4 rest >>= λ n rest. attributes_at n [] rest >>= λ attributes rest. Right (Element name attributes) rest) text r
    (λ name s. bound (number_at 4 s) (λ n rest. attributes_at n [] rest >>= λ attributes rest. Right (Element name attributes) rest) text r
    (λ n t. bound (attributes_at n [] t) (λ attributes rest. Right (Element name attributes) rest) text r (λ attributes u q. cc))) e

ended_words : (f : Field Kind) (text r : List ℕ) → ended_field f ≡ Right (Words text) r → f ≡ Right (Words text) []
ended_words Short text r e = absurd cc
ended_words Wrong text r e = absurd cc
ended_words (Right x []) text r e = let p : ◌≡◌ {A = Field Kind} (Right x []) (Right (Words text) r) = e in let q : x ≡ Words text = cc in ap (λ (k : Kind). Right k []) q
ended_words (Right x (b ∷ s)) text r e = absurd cc

-- what is read as a text begins with its mark, and what is Short doesn't
text_begins : (bs text r : List ℕ) → standing bs ≡ Right (Words text) r → begins_text bs ≡ true
unfolding standing
text_begins [] text r e = absurd cc
text_begins (b ∷ bs) text r e = by (b == 84) (b == 69) e
  where
    by : (t u : Bool) → cond t (Right (Words bs) []) (cond u (ended_field (element_at bs)) Wrong) ≡ Right (Words text) r → t ≡ true
    by true u e = refl
    by false true e = absurd (no_words bs text [] (ended_words (element_at bs) text r e))
    by false false e = absurd cc

short_begins : (bs : List ℕ) → standing bs ≡ Short → begins_text bs ≡ false
unfolding standing
short_begins [] e = refl
short_begins (b ∷ bs) e = by (b == 84) e
  where
    by : (t : Bool) → cond t (Right (Words bs) []) (cond (b == 69) (ended_field (element_at bs)) Wrong) ≡ Short → t ≡ false
    by true e = absurd cc
    by false e = refl

and_not : (a b t : Bool) (x y : Named) → t ≡ true → cond (a && (b && not t)) x y ≡ y
and_not true true true x y e = refl
and_not true false t x y e = refl
and_not false b t x y e = refl
and_not true true false x y e = absurd cc

and_yes : (a b t : Bool) (x y : Named) → t ≡ false → cond (a && (b && not t)) x y ≡ cond (a && b) x y
and_yes true true false x y e = refl
and_yes true false t x y e = refl
and_yes false b t x y e = refl
and_yes true true true x y e = absurd cc

no_kind : (o : Open) → (standing o.content ≡ Wrong → ⊥) → kind_in o.content ≡ None → kind_of (standing o.content) o ≡ Err (unfinished o)
no_kind o w e = by (standing o.content) refl e
  where
    full : Bool
    full = length o.last == piece_limit

    fits : Bool
    fits = nat_lt o.number 4294967295

    by : (f : Field Kind) → standing o.content ≡ f → kind_told f ≡ None → kind_of f o ≡ Err (unfinished o)
    by Short q e = ap Err (sym (and_yes full fits (begins_text o.content) (next_piece o) (last_piece o) (short_begins o.content q)))
    by Wrong q e = absurd (w q)
    by (Right (Element name attributes) rest) q e = absurd cc
    by (Right (Words text) rest) q e = said (is_text text) e ∙ ap Err (sym (and_not full fits (begins_text o.content) (next_piece o) (last_piece o) (text_begins o.content text rest q)))
      where
        said : (t : Bool) → cond t (Some (Words text)) None ≡ None → ok_if t (Words text) (last_piece o) ≡ Err (last_piece o)
        said true e = absurd cc
        said false e = refl

pub node_unfinished : (nodes : List Labelled) (o : Open) (told : Named) → length o.content ≤ piece_limit * (o.number + 1) → kind_in o.content ≡ None → told ≡ or_named (wrong_in o) (unfinished o) → unless_wrong (wrong_in o) (ended nodes (Some o)) ≡ Err told
node_unfinished nodes o told l e t = by (wrong_in o) refl ∙ ap Err (sym t)
  where
    stands : wrong_in o ≡ None → standing o.content ≡ Wrong → ⊥
    stands q w = let z : false ≡ true = sym (ap (λ (f : Field Kind). not (is_wrong f)) w) ∙ none_stands o l q in cc

    by : (w : Option Named) → wrong_in o ≡ w → unless_wrong w (ended nodes (Some o)) ≡ Err (or_named w (unfinished o))
    by None q = ap (λ (r : Result Kind Named). (r &> λ kind. Ok (record { label = o.label; kind = kind })) &> λ e. Ok (e ∷ nodes)) (no_kind o (stands q) e)
    by (Some n) q = refl

-- ---- one piece more

abbrev or_else : Option Named → Option Named → Option Named
or_else None b = b
or_else (Some n) b = Some n

abbrev next_wrong : List ℤ → List ℕ → List ℕ → ℕ → Option Named
next_wrong label bs v n = cond (may_stand (bs ++ v)) None (Some (not_due (chunk_key label n, v)))

take_piece : (bs v : List ℕ) (i : ℕ) → piece_limit * (i + 1) ≤ length bs → take piece_limit (drop (piece_limit * i) (bs ++ v)) ≡ take piece_limit (drop (piece_limit * i) bs)
take_piece bs v i h =
    ap (take piece_limit) (drop_front (piece_limit * i) bs v (omega arith)) ∙ take_front piece_limit (drop (piece_limit * i) bs) v (let l = length-drop (piece_limit * i) bs in rest i (length bs) (length (drop (piece_limit * i) bs)) l h)
  where
    rest : (i l d : ℕ) → d ≡ l - piece_limit * i → piece_limit * (i + 1) ≤ l → piece_limit ≤ d
    rest i l d e h = omega arith

wrong_more : (label : List ℤ) (bs v : List ℕ) (n i k : ℕ) → i + k ≡ n → length bs ≡ piece_limit * n → length v ≤ piece_limit → wrong_from label (bs ++ v) i (suc k) ≡ or_else (wrong_from label bs i k) (next_wrong label bs v n)
wrong_more label bs v n i zero e l s =
    let all : take (piece_limit * (i + 1)) (bs ++ v) ≡ bs ++ v = take_all (piece_limit * (i + 1)) (bs ++ v) (let a = length-append bs v in fit n i (length (bs ++ v)) (length bs) (length v) a e l s) in
    let here : drop (piece_limit * i) (bs ++ v) ≡ v = drop_at bs v (piece_limit * i) (place n i (length bs) e l) in
    ap₂ (λ (t : Bool) (p : List ℕ). cond t None (Some (not_due (chunk_key label i, p)))) (ap may_stand all) (ap (take piece_limit) here ∙ take_all piece_limit v s)
    ∙ ap (λ (m : ℕ). next_wrong label bs v m) (same n i e)
  where
    same : (n i : ℕ) → i + 0 ≡ n → i ≡ n
    same n i e = omega arith

    fit : (n i j b c : ℕ) → j ≡ b + c → i + 0 ≡ n → b ≡ piece_limit * n → c ≤ piece_limit → j ≤ piece_limit * (i + 1)
    fit n i j b c a e l s = omega arith

    place : (n i b : ℕ) → i + 0 ≡ n → b ≡ piece_limit * n → b ≡ piece_limit * i
    place n i b e l = omega arith
wrong_more label bs v n i (suc k) e l s =
    let within : piece_limit * (i + 1) ≤ length bs = fit n i k (length bs) e l in
    ap₂ (λ (t : Bool) (p : List ℕ). cond t (wrong_from label (bs ++ v) (i + 1) (suc k)) (Some (not_due (chunk_key label i, p)))) (ap may_stand (take_front (piece_limit * (i + 1)) bs v within)) (take_piece bs v i within)
    ∙ by (may_stand (take (piece_limit * (i + 1)) bs)) (wrong_more label bs v n (i + 1) k (next n i k e) l s)
  where
    fit : (n i k b : ℕ) → i + suc k ≡ n → b ≡ piece_limit * n → piece_limit * (i + 1) ≤ b
    fit n i k b e l = omega arith

    next : (n i k : ℕ) → i + suc k ≡ n → i + 1 + k ≡ n
    next n i k e = omega arith

    named : Option Named
    named = Some (not_due (chunk_key label i, take piece_limit (drop (piece_limit * i) bs)))

    by : (t : Bool) → wrong_from label (bs ++ v) (i + 1) (suc k) ≡ or_else (wrong_from label bs (i + 1) k) (next_wrong label bs v n)
        → cond t (wrong_from label (bs ++ v) (i + 1) (suc k)) named ≡ or_else (cond t (wrong_from label bs (i + 1) k) named) (next_wrong label bs v n)
    by true i = i
    by false i = refl

-- the node with one piece more
abbrev pub next_open : Open → Place → List ℕ → Open
next_open o p value = record { label = o.label; number = p.number; last = value; content = o.content ++ value }

pub grown : (o : Open) (p : Place) (e : Entry) (nodes : List Labelled) (es : Entries) → length o.content ≡ piece_limit * (o.number + 1) → may_follow o p.number e.1 ≡ true → chunk_key o.label p.number ≡ e.0
    → unless_wrong (wrong_in o) (continued nodes o p e &> λ r. read r.nodes r.node es) ≡ unless_wrong (wrong_in (next_open o p e.1)) (read nodes (Some (next_open o p e.1)) es)
grown o p e nodes es l m k =
    let f = follows (p.number == o.number + 1) (length o.last == piece_limit) (is_piece e.1) m in
    let size : length e.1 ≤ piece_limit = no_more (length e.1) piece_limit (and_parts (nat_le 1 (length e.1)) (nat_le (length e.1) piece_limit) f.1).1 in
    let n : p.number ≡ suc o.number = same_number p.number (o.number + 1) f.0.0 ∙ one_more o.number in
    let wrong : wrong_in (next_open o p e.1) ≡ or_else (wrong_in o) (next_wrong o.label o.content e.1 (suc o.number)) =
    ap (λ (m : ℕ). wrong_from o.label (o.content ++ e.1) 0 (suc m)) n ∙ wrong_more o.label o.content e.1 (suc o.number) 0 (suc o.number) (omega arith) (l ∙ ap (λ (m : ℕ). piece_limit * m) (one_more o.number)) size in
    by (wrong_in o) (may_stand (o.content ++ e.1)) refl
    ∙ sym (ap (λ (w : Option Named). unless_wrong w (read nodes (Some (next_open o p e.1)) es)) wrong)
  where
    one_more : (n : ℕ) → n + 1 ≡ suc n
    one_more n = omega arith

    follows : (a b c : Bool) → (a && (b && c)) ≡ true → ((a ≡ true) × (b ≡ true)) × (c ≡ true)
    follows true true true e = ((refl, refl), refl)
    follows true true false e = absurd cc
    follows true false c e = absurd cc
    follows false b c e = absurd cc

    test : (a b c t : Bool) → (a && (b && c)) ≡ true → (a && (b && (c && t))) ≡ t
    test true true true t e = refl
    test true true false t e = absurd cc
    test true false c t e = absurd cc
    test false b c t e = absurd cc

    key : (chunk_key o.label (suc o.number), e.1) ≡ e
    key = ap (λ (x : List ℕ). (x, e.1)) (ap (chunk_key o.label) (sym (let f = follows (p.number == o.number + 1) (length o.last == piece_limit) (is_piece e.1) m in same_number p.number (o.number + 1) f.0.0 ∙ one_more o.number)) ∙ k)

    made : Progress
    made = record { nodes = nodes; node = Some (next_open o p e.1) }

    by : (w : Option Named) (t : Bool) → may_stand (o.content ++ e.1) ≡ t
        → unless_wrong w (continued nodes o p e &> λ r. read r.nodes r.node es) ≡ unless_wrong (or_else w (cond t None (Some (not_due (chunk_key o.label (suc o.number), e.1))))) (read nodes (Some (next_open o p e.1)) es)
    by (Some n) t q = refl
    by None t q =
        ap (λ (z : Bool). ok_if z made (not_due e) &> λ r. read r.nodes r.node es) (test (p.number == o.number + 1) (length o.last == piece_limit) (is_piece e.1) (may_stand (o.content ++ e.1)) m ∙ q) ∙ said t
      where
        said : (t : Bool) → (ok_if t made (not_due e) &> λ r. read r.nodes r.node es) ≡ unless_wrong (cond t None (Some (not_due (chunk_key o.label (suc o.number), e.1)))) (read nodes (Some (next_open o p e.1)) es)
        said true = refl
        said false = ap (λ (z : Entry). Err (not_due z)) (sym key)

full_length : (bs : List ℕ) (n : ℕ) → (length (drop (piece_limit * n) bs) == piece_limit) ≡ true → length bs ≡ piece_limit * (n + 1)
full_length bs n e = let l = length-drop (piece_limit * n) bs in let s = same_number (length (drop (piece_limit * n) bs)) piece_limit e in sum (length bs) (length (drop (piece_limit * n) bs)) n l s
  where
    sum : (b d n : ℕ) → d ≡ b - piece_limit * n → d ≡ piece_limit → b ≡ piece_limit * (n + 1)
    sum b d n l s = omega arith

-- with its last piece cut from the content
abbrev cut_open : List ℤ → ℕ → List ℕ → Open
cut_open label number content = record { label = label; number = number; last = drop (piece_limit * number) content; content = content }

pub grown_cut : (label : List ℤ) (number next : ℕ) (old new : List ℕ) (e : Entry) → may_follow (cut_open label number old) next e.1 ≡ true → chunk_key label next ≡ e.0 → new ≡ old ++ e.1 → (nodes : List Labelled) (es : Entries)
    → unless_wrong (wrong_in (cut_open label number old)) (continued nodes (cut_open label number old) (record { label = label; number = next }) e &> λ r. read r.nodes r.node es)
    ≡ unless_wrong (wrong_in (cut_open label next new)) (read nodes (Some (cut_open label next new)) es)
grown_cut label number next old new e m k n nodes es =
    grown o p e nodes es l m k ∙ ap (λ (z : Open). unless_wrong (wrong_in z) (read nodes (Some z) es)) (sym same)
  where
    o : Open
    o = cut_open label number old

    p : Place
    p = record { label = label; number = next }

    a : ((next == number + 1) ≡ true) × (((length o.last == piece_limit) && is_piece e.1) ≡ true)
    a = and_parts (next == number + 1) ((length o.last == piece_limit) && is_piece e.1) m

    l : length old ≡ piece_limit * (number + 1)
    l = full_length old number (and_parts (length o.last == piece_limit) (is_piece e.1) a.1).0

    place : length old ≡ piece_limit * next
    place = l ∙ ap (λ (i : ℕ). piece_limit * i) (sym (same_number next (number + 1) a.0))

    same : cut_open label next new ≡ next_open o p e.1
    same =
        ap (cut_open label next) n
        ∙ ap (λ (z : List ℕ). record { label = label; number = next; last = z; content = old ++ e.1 }) (drop_at old e.1 (piece_limit * next) place)

-- ---- pieces one after the other

pub take_least : (bs : List ℕ) (n : ℕ) → take (min (length bs) n) bs ≡ take n bs
take_least bs n = by (nat_le (length bs) n) refl
  where
    longer : (a b : ℕ) → nat_le a b ≡ false → b ≤ a
    longer a b e = grind (arith, nat_tests)

    by : (t : Bool) → nat_le (length bs) n ≡ t → take (min (length bs) n) bs ≡ take n bs
    by true q =
        let l = no_more (length bs) n q in
        let m : min (length bs) n ≡ length bs = omega arith in
        ap (λ (k : ℕ). take k bs) m ∙ take_all (length bs) bs (omega arith) ∙ sym (take_all n bs l)
    by false q =
        let l = longer (length bs) n q in
        let m : min (length bs) n ≡ n = omega arith in
        ap (λ (k : ℕ). take k bs) m

-- a piece, cut from all that is behind its place
pub piece_taken : (bs : List ℕ) (k m n : ℕ) → m ≡ min (length (take (length bs - k) (drop k bs))) n → take m (take (length bs - k) (drop k bs)) ≡ take n (drop k bs)
piece_taken bs k m n e =
    ap (λ (i : ℕ). take i (take (length bs - k) (drop k bs))) e
    ∙ ap (λ (z : List ℕ). take (min (length z) n) z) (take_all (length bs - k) (drop k bs) (let l = length-drop k bs in omega (arith, l)))
    ∙ take_least (drop k bs) n

pub wrong_all : (o : Open) → wrong_from o.label o.content 0 (o.number + 1 - 0) ≡ wrong_in o
wrong_all o = ap (λ (k : ℕ). wrong_from o.label o.content 0 k) (one_more o.number)
  where
    one_more : (n : ℕ) → n + 1 - 0 ≡ suc n
    one_more n = omega arith

pub wrong_first : (o : Open) (i n : ℕ) → n ≡ suc o.number → i < n → wrong_from o.label o.content i (n - i) ≡ wrong_in o → may_stand (take (piece_limit * (i + 1)) o.content) ≡ false → Some (not_due (chunk_key o.label i, take piece_limit (drop (piece_limit * i) o.content))) ≡ wrong_in o
wrong_first o i n q h e f = sym (ap (λ (k : ℕ). wrong_from o.label o.content i k) (left i n h) ∙ ap (λ (t : Bool). cond t (wrong_from o.label o.content (i + 1) (n - (i + 1))) (Some (not_due (chunk_key o.label i, take piece_limit (drop (piece_limit * i) o.content))))) f) ∙ e
  where
    left : (i n : ℕ) → i < n → n - i ≡ suc (n - (i + 1))
    left i n h = omega arith

pub wrong_later : (o : Open) (i n : ℕ) → i < n → wrong_from o.label o.content i (n - i) ≡ wrong_in o → may_stand (take (piece_limit * (i + 1)) o.content) ≡ true → wrong_from o.label o.content (i + 1) (n - (i + 1)) ≡ wrong_in o
wrong_later o i n h e f = sym (ap (λ (k : ℕ). wrong_from o.label o.content i k) (left i n h) ∙ ap (λ (t : Bool). cond t (wrong_from o.label o.content (i + 1) (n - (i + 1))) (Some (not_due (chunk_key o.label i, take piece_limit (drop (piece_limit * i) o.content))))) f) ∙ e
  where
    left : (i n : ℕ) → i < n → n - i ≡ suc (n - (i + 1))
    left i n h = omega arith

pub wrong_never : (o : Open) (i n : ℕ) → n ≤ i → wrong_from o.label o.content i (n - i) ≡ wrong_in o → None ≡ wrong_in o
wrong_never o i n h e = let z : n - i ≡ 0 = omega arith in sym (ap (λ (k : ℕ). wrong_from o.label o.content i k) z) ∙ e
