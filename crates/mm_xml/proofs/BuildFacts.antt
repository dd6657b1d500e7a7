-- The loop that builds the tree.
use Rattle.std.proofs.Common.{◌≡◌, ℕ, zero, suc, ◌≤◌, Bool, true, false, List, [], ◌∷◌, length, Option, Some, refl, sym, ap, subst, ◌∙◌, arith, eqb}
use Rattle.std.specs.Prelude.{Result, Ok, Err}
use Rattle.mm_tree.specs.declared.Kind.{Kind}
use Rattle.mm_tree.specs.declared.Plain.{Plain}
use Rattle.mm_tree.specs.Trees.{Tree}
use Rattle.mm_xml.specs.declared.error.XmlError.{XmlError}
use Rattle.mm_xml.specs.declared.error.XmlError.TheVariants as error
use Rattle.mm_xml.specs.Grammar.{is_inside}
use Rattle.mm_xml.specs.Inside.Lexing.{◌>>=◌, Found}
use Rattle.mm_xml.specs.Inside.Telling.{Sign}
use Rattle.mm_xml.specs.Inside.Passages.{passage_at, allowed_at}
use Rattle.mm_xml.specs.Inside.Machine.{State, Before, finish_step, sign_step, deepest_of, Order, sign_may, sign_next, read_from, read_as}
use Rattle.mm_tree.specs.Forests.{level_limit}
use Rattle.mm_xml.specs.Inside.Builds.{Follows, AdvanceFails, FinishFails, Finishes, Gives}
use Rattle.mm_xml.proofs.Spans.{bind_some}
use Rattle.mm_xml.proofs.Enough.{read_enough}
use Rattle.mm_xml.proofs.Levels.{read_deep}
use Rattle.mm_xml.proofs.OrderFacts.{Left, guarded}
use Rattle.mm_xml.proofs.Passages.{passage_is}

pub begins : (k : ℕ) (s : State) (run : List ℕ) (order : Order) (cs : List ℕ) → length cs ≤ k → s ≡ Before → run ≡ [] → read_from k s run order cs ≡ read_as order cs
unfolding read_as
begins k s run order cs enough e r = (λ j. read_from k (e j) (r j) order cs) ∙ read_enough k (length cs) Before [] order cs enough (omega arith)

pub shallow_at_first : (s : State) → s ≡ Before → deepest_of s ≤ level_limit
shallow_at_first s e = subst (λ (s : State). deepest_of s ≤ level_limit) (sym e) (omega arith)

-- what is left is read after what may stand at its front
ahead : (k m : ℕ) (s : State) (run : List ℕ) (b : Bool) (order : Order) (rest : List ℕ) → Left k m b rest
    → read_from k s run order rest ≡ (allowed_at order rest >>= λ x. sign_step s run x.0 >>= λ y. read_from m y.0 y.1 (sign_next order x.0) x.1)
ahead k m s run b order [] left = let both_ways : true ≡ false = sym left.is ∙ left.filled in absurd cc
ahead k m s run b order (c ∷ cs) left =
    ap (λ (n : ℕ). read_from n s run order (c ∷ cs)) left.count
    ∙ passage_is m s run order c cs (omega (arith, left.few, left.count))
    ∙ guarded (passage_at (is_inside order.depth) (c ∷ cs)) (λ x. sign_may order x.0) (λ x. sign_step s run x.0 >>= λ y. read_from m y.0 y.1 (sign_next order x.0) x.1)

found : (k m : ℕ) (s : State) (run : List ℕ) (b : Bool) (order : Order) (rest behind : List ℕ) (sign : Sign) → Left k m b rest → allowed_at order rest ≡ Some (sign, behind)
    → read_from k s run order rest ≡ (sign_step s run sign >>= λ y. read_from m y.0 y.1 (sign_next order sign) behind)
found k m s run b order rest behind sign left is = ahead k m s run b order rest left ∙ ap (λ (x : Found Sign). x >>= λ x. sign_step s run x.0 >>= λ y. read_from m y.0 y.1 (sign_next order x.0) x.1) is

-- one lexeme further, the same is read
pub goes_on : (k m : ℕ) (s s' : State) (run run' : List ℕ) (b : Bool) (order order' : Order) (rest behind : List ℕ) (sign : Sign) → Left k m b rest → allowed_at order rest ≡ Some (sign, behind)
    → order' ≡ sign_next order sign → sign_step s run sign ≡ Some (s', run') → read_from m s' run' order' behind ≡ read_from k s run order rest
goes_on k m s s' run run' b order order' rest behind sign left is next moved =
    ap (λ (x : Order). read_from m s' run' x behind) next
    ∙ sym (found k m s run b order rest behind sign left is ∙ ap (λ (x : Option (State × List ℕ)). x >>= λ y. read_from m y.0 y.1 (sign_next order sign) behind) moved)

-- a lexeme that leads nowhere, or too deep
pub stops : (e : XmlError) (k m : ℕ) (s : State) (run : List ℕ) (b : Bool) (order start : Order) (rest behind cs : List ℕ) (sign : Sign) → Left k m b rest → allowed_at order rest ≡ Some (sign, behind)
    → read_from k s run order rest ≡ read_as start cs → AdvanceFails e (sign_step s run sign) → FinishFails e (read_as start cs)
stops error.NotXml k m s run b order start rest behind cs sign left is same h =
    sym same ∙ found k m s run b order rest behind sign left is ∙ ap (λ (x : Option (State × List ℕ)). x >>= λ y. read_from m y.0 y.1 (sign_next order sign) behind) h
stops error.TooDeep k m s run b order start rest behind cs sign left is same h = λ t e.
    let moved = bind_some (sign_step s run sign) (λ y. read_from m y.0 y.1 (sign_next order sign) behind) t (sym (found k m s run b order rest behind sign left is) ∙ same ∙ e) in
    omega (arith, h moved.0 moved.1, read_deep m moved.0.0 moved.0.1 (sign_next order sign) behind t moved.2)
stops error.Memory k m s run b order start rest behind cs sign left is same h = tt

-- where nothing stands that may, or memory ran out
pub lost : (e : XmlError) (k m : ℕ) (s : State) (run : List ℕ) (b : Bool) (order order' start : Order) (rest cs : List ℕ) → Left k m b rest → Follows (Err e) order order' rest → read_from k s run order rest ≡ read_as start cs → FinishFails e (read_as start cs)
lost error.NotXml k m s run b order order' start rest cs left h same = sym same ∙ ahead k m s run b order rest left ∙ ap (λ (x : Found Sign). x >>= λ x. sign_step s run x.0 >>= λ y. read_from m y.0 y.1 (sign_next order x.0) x.1) h
lost error.TooDeep k m s run b order order' start rest cs left h same = absurd h
lost error.Memory k m s run b order order' start rest cs left h same = tt

-- the end
same_end : (k : ℕ) (s : State) (run : List ℕ) (order : Order) (rest : List ℕ) → rest ≡ [] → finish_step s run ≡ read_from k s run order rest
same_end zero s run order rest e = rw e refl
same_end (suc k) s run order rest e = rw e refl

pub ends : (r : Result Plain XmlError) (k : ℕ) (s : State) (run : List ℕ) (order start : Order) (rest cs : List ℕ) → Finishes r s (finish_step s run) → rest ≡ [] → read_from k s run order rest ≡ read_as start cs → deepest_of s ≤ level_limit → Gives r (read_as start cs)
ends (Ok p) k s run order start rest cs h empty same few = (sym (same_end k s run order rest empty ∙ same) ∙ h.0, h.1 few)
ends (Err e) k s run order start rest cs h empty same few = subst (λ (x : Option (Tree Kind)). FinishFails e x) (same_end k s run order rest empty ∙ same) h

pub nothing_left : (rest : List ℕ) (b : Bool) → b ≡ eqb (length rest) 0 → b ≡ true → rest ≡ []
nothing_left [] b e h = refl
nothing_left (x ∷ rest) b e h = absurd (filled (length rest) (sym h ∙ e))
  where
    filled : (n : ℕ) → true ≡ eqb (suc n) 0 → ⊥
    filled n h = grind arith
