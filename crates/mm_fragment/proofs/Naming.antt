-- The damage that a name tells, along calls.
use Rattle.std.proofs.Common.{inl, inr, ℤ, List, [], ◌∷◌, ◌≡◌, sym, subst, Result, Ok, Err, IfErr}
use Rattle.mm_host.specs.declared.damage.Fault.{Fault}
use Rattle.mm_host.specs.declared.damage.Fault.TheVariants.{DiskFault, Damaged, Spent, Memory}
use Rattle.mm_label.specs.Fronts.{Front, Within}
use Rattle.mm_keeper.specs.Entries.{Entries}
use Rattle.mm_lists.specs.Causes.{BlamesOnly}
use Rattle.mm_keeper_lists.specs.Found.{IsDamageOf}
use Rattle.mm_match.specs.declared.mark.Mark.{Mark}
use Rattle.mm_match.specs.Marks.{labels, mark_label, survives}
use Rattle.mm_label.specs.Facts.Members.{in_within, within_in}
use Rattle.mm_fragment.specs.Inside.Keeping.{IsKept}
use Rattle.mm_fragment.specs.Inside.Stored.{BlamesNames}
use Rattle.mm_fragment.specs.Stored.{IsDamageBelow}
use Rattle.mm_fragment.proofs.Owned.{within_kept}

-- a damage of one of these nodes is one of them all
blamed_more : (m : Entries) (x : List ℤ) (xs : List (List ℤ)) → Within x xs → (e : Fault) → BlamesNames m (x ∷ []) e → BlamesNames m xs e
blamed_more m x xs w DiskFault b = tt
blamed_more m x xs w Spent b = tt
blamed_more m x xs w Memory b = tt
blamed_more m x xs w (Damaged d) b = (b.0, elim b.1 [ inl q ↦ subst (λ z. Within z xs) (sym q) w | inr q ↦ absurd q ], b.2, b.3)

pub blamed_among : {T : Type 0} (r : Result T Fault) (e : Fault) (m n : Entries) (x : List ℤ) (xs : List (List ℤ)) → r ≡ Err e → m ≡ n → Within x xs → BlamesNames m (x ∷ []) e → IfErr r (BlamesNames n xs)
blamed_among r e m n x xs p q w b = subst (λ z. IfErr z (BlamesNames n xs)) (sym p) (subst (λ z. BlamesNames z xs e) q (blamed_more m x xs w e b))

-- and one below x, where they all lie at or below it
pub names_below : {T : Type 0} (r : Result T Fault) (m : Entries) (x : List ℤ) (xs : List (List ℤ)) → ((y : List ℤ) → Within y xs → Front x y) → IfErr r (BlamesNames m xs) → IfErr r (BlamesOnly (IsDamageBelow x m))
names_below (Ok a) m x xs h b = tt
names_below (Err DiskFault) m x xs h b = tt
names_below (Err Spent) m x xs h b = tt
names_below (Err Memory) m x xs h b = tt
names_below (Err (Damaged d)) m x xs h b = inr (b.0, h b.0 b.1, b.2, b.3)

pub lists_below : {T : Type 0} (r : Result T Fault) (m : Entries) (x : List ℤ) → IfErr r (BlamesOnly (IsDamageOf m)) → IfErr r (BlamesOnly (IsDamageBelow x m))
lists_below (Ok a) m x b = tt
lists_below (Err DiskFault) m x b = tt
lists_below (Err Spent) m x b = tt
lists_below (Err Memory) m x b = tt
lists_below (Err (Damaged d)) m x b = inl b

pub kept_below : (x : List ℤ) (ms ks : List Mark) → IsKept x ms ks → (y : List ℤ) → Within y (labels ks) → Front x y
kept_below x ms ks q y i =
    let p = within_in mark_label y ks i in
    let j = within_kept (survives q.all) p.0 q.all (subst (Within p.0) q.kept p.1) in
    ((q.masks.on_path y).0 (subst (λ z. Within z (labels q.all)) (sym p.2) (in_within mark_label p.0 q.all j))).below
