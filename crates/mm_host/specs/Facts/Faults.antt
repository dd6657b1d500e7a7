-- Which fault a call over a disk answers, by the counts that rose in it.
use Rattle.std.proofs.Common.{◌≡◌, ◌≤◌, ◌⊎◌, ℕ, inl, inr, sym, subst, arith}
use Rattle.mm_host.specs.Causes.{Rose, RoseFor}
use Rattle.mm_host.specs.declared.damage.Fault.{Fault}
use Rattle.mm_host.specs.declared.damage.Fault.TheVariants.{DiskFault, Memory}

-- after earlier calls of the disk in it, in which no count fell
pub rose-since : (f f1 f2 w w1 w2 : ℕ) (fault : Fault) → f ≤ f1 → w ≤ w1 → (fault ≡ DiskFault → Rose f f2) → (fault ≡ Memory → Rose f f2 → ⊥) → (fault ≡ DiskFault) ⊎ (fault ≡ Memory)
    → Rose f1 f2 ⊎ Rose w1 w2 → RoseFor f f2 w w2 fault
rose-since f f1 f2 w w1 w2 fault le le' disk memory (inl is) rose = subst (RoseFor f f2 w w2) (sym is) (disk is)
rose-since f f1 f2 w w1 w2 fault le le' disk memory (inr is) (inl rose) = absurd (memory is (omega (arith, le, rose)))
rose-since f f1 f2 w w1 w2 fault le le' disk memory (inr is) (inr rose) = subst (RoseFor f f2 w w2) (sym is) (omega (arith, le', rose))
