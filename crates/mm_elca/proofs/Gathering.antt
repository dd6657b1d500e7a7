-- The candidates of the nodes of a list are gathered one by one.
use Rattle.std.proofs.Common.{inl, inr, ◌≡◌, ◌∙◌, ℕ, ◌+◌, ◌≤◌, length, take, drop, take_all, arith, ap, List, [], ◌∷◌, ◌++◌, Option, Some, None, refl, sym, subst}
use Rattle.std.proofs.lemmas.List.{length-drop, take_more}
use Rattle.mm_label.specs.Fronts.{Label, Front, Meets, Ascends, or_empty}
use Rattle.mm_lists.specs.Full.{MeetsAll, IsFullNode, IsCandidate}
use Rattle.mm_lists.specs.Advancing.{Advances}
use Rattle.mm_label.specs.Facts.Fronts.{front_antisym}
use Rattle.mm_label.specs.Facts.Lists.{met, meets, within_last, within_longer, within_cases}
use Rattle.mm_lists.specs.Lists.{head_of}
use Rattle.mm_elca.specs.Owning.{Candidates}
use Rattle.mm_elca.specs.Inside.Gathering.{Gathered, Gathering, IsInOrder, TakesIn}
use Rattle.mm_lists.specs.Facts.Walking.{head_none, head_some, drop_rest}

last_length : (c : Label) (ds : List Label) → length (ds ++ c ∷ []) ≡ length ds + 1
last_length c [] = refl
last_length c (d ∷ ds) = let h = last_length c ds in omega arith

pub takes_length : (o : Option Label) (old new : List Label) → TakesIn o old new → length new ≤ length old + 1
takes_length None old new t = omega (arith, ap length t)
takes_length (Some c) old new t = omega (arith, ap length t.0, last_length c old)

-- a candidate that is a node comes in
gathered_more : (all : List (List Label)) (ms cs : List Label) (v c : Label) → Gathered all ms cs → IsCandidate all v c → (c ≡ [] → ⊥) → Gathered all (ms ++ v ∷ []) (cs ++ c ∷ [])
gathered_more all ms cs v c g k some = record {
  full = λ u w. elim (within_cases u c cs w) [
    | inl h ↦ g.full u h
    | inr e ↦ subst (IsFullNode all) (sym e) (k.full.0, k.full.1, some)
  ];
  each = λ u y w i f. elim (within_cases u v ms w) [
    | inl h ↦ let t = g.each u y h i f in (t.0, within_longer t.0 c cs t.1, t.2)
    | inr e ↦ (c, within_last c cs, subst (λ (x : Label). IsCandidate all x c) (sym e) k)
  ];
}

-- and one that is none changes nothing
gathered_none : (all : List (List Label)) (ms cs : List Label) (v : Label) → Gathered all ms cs → IsCandidate all v [] → Gathered all (ms ++ v ∷ []) cs
gathered_none all ms cs v g k = record {
  full = g.full;
  each = λ u y w i f. elim (within_cases u v ms w) [
    | inl h ↦ g.each u y h i f
    | inr e ↦ absurd (i.2 (front_antisym y [] (k.deepest y (i.0, i.1) (subst (Front y) e f)) tt))
  ];
}

gathered_in : (all : List (List Label)) (ms old new : List Label) (v : Label) (o : Option Label) → Gathered all ms old → IsCandidate all v (or_empty o) → TakesIn o old new → Gathered all (ms ++ v ∷ []) new
gathered_in all ms old new v None g k t = subst (Gathered all (ms ++ v ∷ [])) (sym t) (gathered_none all ms old v g k)
gathered_in all ms old new v (Some c) g k t = subst (Gathered all (ms ++ v ∷ [])) (sym t.0) (gathered_more all ms old v c g k (λ e. let n = ap length e in absurd (omega (arith, t.1))))

pub gathering_first : (all : List (List Label)) (ms cs : List Label) (at : Option Label) → cs ≡ [] → at ≡ head_of ms → Gathering all ms 0 cs at
gathering_first all ms cs at e h = record {
  gathered = subst (Gathered all (take 0 ms)) (sym e) (record { full = λ c w. absurd w; each = λ v y w i f. absurd w });
  here = h;
}

-- one node more is passed, or nothing is left
pub gathering_more : (all : List (List Label)) (ms : List Label) (i : ℕ) (old new : List Label) (was at c : Option Label) → Gathering all ms i old was → Advances all ms i was at c → TakesIn c old new
    → Gathering all ms (i + 1) new at
gathering_more all ms i old new None at c s g u =
    let e = head_none (drop i ms) s.here in
    let n : length ms ≤ i = omega (arith, length-drop i ms, ap length e) in
    let t : take (i + 1) ms ≡ take i ms = take_all (i + 1) ms (omega arith) ∙ sym (take_all i ms n) in
    let same : new ≡ old = subst (λ (o : Option Label). TakesIn o old new) g.found u in
    record {
      gathered = subst (λ (p : List Label). Gathered all p new) (sym t) (subst (Gathered all (take i ms)) (sym same) s.gathered);
      here = g.here;
    }
gathering_more all ms i old new (Some v) at c s g u =
    let t = head_some (drop i ms) v s.here in
    let r = drop_rest ms i v t.0 t.1 in
    let more : take (i + 1) ms ≡ take i ms ++ v ∷ [] = take_more ms i [] r.0 ∙ ap (λ (x : Label). take i ms ++ x ∷ []) r.1 in
    record {
      gathered = subst (λ (p : List Label). Gathered all p new) (sym more) (gathered_in all (take i ms) old new v c s.gathered g.found u);
      here = g.here;
    }

pub gathering_end : (all : List (List Label)) (ms : List Label) (i : ℕ) (cs : List Label) (at : Option Label) → i ≡ length ms → Gathering all ms i cs at → Gathered all ms cs
gathering_end all ms i cs at e s = subst (λ (p : List Label). Gathered all p cs) (take_all i ms (omega arith)) s.gathered

-- ---- the candidates in document order, each once

pub gathered_sorted : (all : List (List Label)) (ms cs ds : List Label) → Gathered all ms cs → IsInOrder cs ds → Gathered all ms ds
gathered_sorted all ms cs ds g s = record {
  full = λ c w. g.full c (s.from c w);
  each = λ v y w i f. let t = g.each v y w i f in (t.0, s.all t.0 t.1, t.2);
}

pub gathered_candidates : (all : List (List Label)) (ms cs : List Label) → ((z : Label) → MeetsAll z all → Meets z ms) → Gathered all ms cs → Ascends cs → Candidates all cs
gathered_candidates all ms cs own g a = record {
  ascends = a;
  full = g.full;
  covers = λ y i.
      let v = met y ms (own y i.1) in
      let c = g.each v.0 y v.1 i v.2 in
      meets y cs c.0 c.1 (c.2.deepest y (i.0, i.1) v.2);
}
