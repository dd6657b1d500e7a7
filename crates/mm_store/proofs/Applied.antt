-- What an edit leaves of a keeper that holds a forest's image: at the plan's end, and at its own.
use Rattle.std.proofs.Common.{inl, inr, ◌≡◌, ◌≤◌, ◌+◌, ◌*◌, ◌⊎◌, ℕ, Bool, false, List, Option, Some, length, ap, sym, subst, ◌∙◌, arith}
use Rattle.mm_edit.specs.Difference.{IsDifference, Key}
use Rattle.mm_host.specs.Facts.Moments.{as_before_only, joined}
use Rattle.mm_host.specs.Moments.{LeavesOnly}
use Rattle.mm_image.specs.Ground.{HoldsImage, SameGround}
use Rattle.mm_image.specs.Image.{image}
use Rattle.mm_keeper.specs.Entries.{Entries}
use Rattle.mm_keeper.specs.Keeping.{Seen, Written}
use Rattle.mm_tree.specs.Numbering.{Labelled}
use Rattle.mm_tree.specs.Trees.{Trees}
use Rattle.mm_store.proofs.Edited.{few, few_all}

module _ {K D S : Type 0} (over : K → D) (tells : Type 0) (has_maps is_sound : K → Type 0) (seen : K → Seen S) (is_spent : K → Bool) (moment : K → ℕ)
    (left_since : K → ℕ → Option Entries → Type 0) (written : K → Written) (changes : K → ℕ) where
  abbrev Same : K → K → Type 0
  Same = SameGround over has_maps tells seen written changes moment left_since

  abbrev OnlyKept : Type 0
  OnlyKept = (k : K) (m : Option Entries) → has_maps k → is_sound k → is_spent k ≡ false → left_since k (moment k) m → m ≡ Some (seen k).kept

  -- one of the two forests
  abbrev Either : Entries → Entries → Option Entries → Type 0
  Either before after m = (m ≡ Some before) ⊎ (m ≡ Some after)

  pub still : (old mid : K) (f : Trees Labelled) → HoldsImage has_maps seen old f → Same old mid → HoldsImage has_maps seen mid f
  still old mid f s p = (p.maps.0 s.0, s.1, ap (λ z. z.now) (p.same s.0) ∙ s.2)

  pub differs : (old mid : K) (f : Trees Labelled) (removes : List Key) (puts next : Entries) → HoldsImage has_maps seen old f → Same old mid → IsDifference removes puts (image f) next → IsDifference removes puts (seen mid).now next
  differs old mid f removes puts next s p d = subst (λ (z : Entries). IsDifference removes puts z next) (sym (still old mid f s p).2) d

  -- nothing was changed
  pub moment_stays : OnlyKept → (old new : K) (f : Trees Labelled) (next : Entries) → HoldsImage has_maps seen old f → is_sound old → is_spent old ≡ false → (seen old).kept ≡ image f → Same old new
      → LeavesOnly moment left_since old new (Either (image f) next)
  moment_stays only old new f next s sound unspent kept p =
      as_before_only moment left_since old new (Either (image f) next) (λ m l. inl (only old m s.0 sound unspent l ∙ ap Some kept)) (p.any_moment s.0)

  pub moment_along : OnlyKept → (old mid new : K) (f : Trees Labelled) (next : Entries) → HoldsImage has_maps seen old f → is_sound old → is_spent old ≡ false → (seen old).kept ≡ image f → Same old mid
      → LeavesOnly moment left_since mid new (Either (seen mid).kept next) → LeavesOnly moment left_since old new (Either (image f) next)
  moment_along only old mid new f next s sound unspent kept p later =
      joined moment left_since old mid new (Either (image f) next) (Either (seen mid).kept next) (moment_stays only old mid f next s sound unspent kept p) later
      (λ m q. elim q [
        | inl e ↦ inl (e ∙ ap Some (ap (λ z. z.kept) (p.same s.0) ∙ kept))
        | inr e ↦ inr e
      ])

-- a plan's steps, and those that carry it out
pub cost_whole : (s t u : ℕ) (removes : List Key) (puts old new : Entries) → IsDifference removes puts old new → t ≤ s + 4 * (length old + length new + 1) → u ≤ t + (length removes + length puts) → u ≤ s + 8 * (length old + length new + 1)
cost_whole s t u removes puts old new d p q = omega (arith, p, q, few removes puts old new d, few_all old new)

pub cost_plan : (s t a b : ℕ) → t ≤ s + 4 * (a + b + 1) → t ≤ s + 8 * (a + b + 1)
cost_plan s t a b p = omega (arith, p)
