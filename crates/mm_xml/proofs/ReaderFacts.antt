-- What the reader answers.
use Rattle.std.proofs.Common.{◌≡◌, ℕ, ◌^◌, ◌<◌, true, false, List, length, Option, Some, None, refl, sym, ap, subst, ◌∙◌}
use Rattle.std.specs.Prelude.{IfOk, IsErrOf, IsTrue, is_some, Result, Ok, Err}
use Rattle.std.specs.Borrow.{Bor}
use Rattle.std.specs.Str.{chars}
use Rattle.mm_tree.specs.declared.Kind.{Kind}
use Rattle.mm_tree.specs.declared.Plain.{Plain}
use Rattle.mm_tree.specs.Trees.{Tree, tree_of}
use Rattle.mm_tree.specs.Validity.{are_chars, is_valid_tree}
use Rattle.mm_xml.specs.declared.error.XmlError.{XmlError}
use Rattle.mm_xml.specs.declared.error.XmlError.TheVariants as error
use Rattle.mm_xml.specs.Grammar.{Spells, characters, normal}
use Rattle.mm_xml.specs.Inside.Machine.{Order, read_as, read_all}
use Rattle.mm_xml.specs.Inside.Outlines.{outline_as}
use Rattle.mm_xml.specs.Refusals.{IsShallow, IsTooDeep, AnswersFor}
use Rattle.mm_xml.specs.Inside.Builds.{FinishFails, Outlines, Reads, Decodes}
use Rattle.mm_xml.proofs.Spans.{some_is}
use Rattle.mm_xml.proofs.OutlineFacts.{outline_reads}
use Rattle.mm_xml.proofs.Whole.{read_spelled, spelled_read, one_tree}
use Rattle.mm_xml.proofs.Valid.{valid_tree}

there : {A : Type 0} (o : Option A) → is_some o ≡ true → (x : A) × (o ≡ Some x)
there None e = absurd cc
there (Some x) e = (x, refl)

nowhere : {A : Type 0} (o : Option A) → is_some o ≡ false → o ≡ None
nowhere None e = refl
nowhere (Some x) e = absurd cc

-- ---- one form

-- a tree that is too deep, of which the outline was found
pub too_deep : (order : Order) (cs : List ℕ) → FinishFails error.TooDeep (read_as order cs) → outline_as order cs ≡ true → Reads (Err error.TooDeep) (read_as order cs)
too_deep order cs h e = let t = there (read_as order cs) (sym (outline_reads order cs) ∙ e) in (t.0, t.1, h t.0 t.1)

-- no outline was found
pub no_outline : (e : XmlError) (order : Order) (cs : List ℕ) → Outlines {U = Unit {0}} (Err e) (outline_as order cs) → Reads (Err e) (read_as order cs)
no_outline error.NotXml order cs h = nowhere (read_as order cs) (sym (outline_reads order cs) ∙ h)
no_outline error.TooDeep order cs h = absurd h
no_outline error.Memory order cs h = tt

-- ---- the bytes

-- the clauses of a reader
pub record Answers (r : Result Plain XmlError) (bytes : List ℕ) : Type 0 where
  pub found : IfOk r (λ p. Spells bytes (tree_of p) × IsShallow (tree_of p))
  pub only : (t : Tree Kind) → Spells bytes t → AnswersFor r t
  pub none : IsErrOf r error.NotXml → (t : Tree Kind) → ¬ Spells bytes t
  pub deep : IsErrOf r error.TooDeep → (t : Tree Kind) × Spells bytes t × IsTooDeep t
  pub valid : length bytes < 2 ^ 32 → IfOk r (λ p. IsTrue (is_valid_tree (tree_of p)))

spelled : (bytes : List ℕ) (t : Tree Kind) → are_chars bytes ≡ true → read_all (characters bytes) ≡ Some t → Spells bytes t
spelled bytes t utf8 e = let s = read_spelled (characters bytes) t e in (s.0, s.1, record { encoded = utf8; by = s.2 })

read_so : (bytes : List ℕ) (t : Tree Kind) → Spells bytes t → read_all (characters bytes) ≡ Some t
read_so bytes t s = spelled_read (characters bytes) t s.0 s.1 s.2.by

pub nothing_read : (bytes : List ℕ) → Answers (Err error.Memory) bytes
nothing_read bytes = record { found = tt; only = λ t s. tt; none = λ is. absurd cc; deep = λ is. absurd cc; valid = λ short. tt }

never : (bytes : List ℕ) → ((t : Tree Kind) → ¬ Spells bytes t) → Answers (Err error.NotXml) bytes
never bytes h = record { found = tt; only = λ t s. h t s; none = λ is. h; deep = λ is. absurd cc; valid = λ short. tt }

pub answers : (r : Result Plain XmlError) (bytes cs : List ℕ) → are_chars bytes ≡ true → cs ≡ characters bytes → Reads r (read_all cs) → Answers r bytes
answers (Ok p) bytes cs utf8 same h =
    let s = spelled bytes (tree_of p) utf8 (ap (λ (x : List ℕ). read_all x) (sym same) ∙ h.0) in
    record {
      found = (s, h.1);
      only = λ t u. let equal = one_tree bytes (tree_of p) t s u in (equal, subst IsShallow equal h.1);
      none = λ is. absurd cc;
      deep = λ is. absurd cc;
      valid = λ short. valid_tree bytes (tree_of p) short s;
    }
answers (Err error.NotXml) bytes cs utf8 same h =
    never bytes (λ t s. let both_ways : None ≡ Some t = sym h ∙ ap (λ (x : List ℕ). read_all x) same ∙ read_so bytes t s in cc)
answers (Err error.TooDeep) bytes cs utf8 same h =
    let s = spelled bytes h.0 utf8 (ap (λ (x : List ℕ). read_all x) (sym same) ∙ h.1) in
    record {
      found = tt;
      only = λ t u. subst IsTooDeep (one_tree bytes h.0 t s u) h.2;
      none = λ is. absurd cc;
      deep = λ is. (h.0, s, h.2);
      valid = λ short. tt;
    }
answers (Err error.Memory) bytes cs utf8 same h = nothing_read bytes

pub decoded : (r : Option (Bor (List ℕ))) (text : Bor (List ℕ)) (bytes : List ℕ) → r ≡ Some text → Decodes r bytes → (are_chars bytes ≡ true) × (normal false (chars text.now) ≡ characters bytes)
decoded None text bytes e h = absurd cc
decoded (Some x) text bytes e h = (h.0, ap (λ (cs : List ℕ). normal false cs) (ap (λ (v : Bor (List ℕ)). chars v.now) (sym (some_is x text e)) ∙ h.1))
