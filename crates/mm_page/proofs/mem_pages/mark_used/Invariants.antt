use Rattle.std.proofs.Common.{◌≡◌, ◌<◌, ◌+◌, ℕ, length, get_or}
use Rattle.std.specs.Prelude.{◌==◌}
use Rattle.std.specs.List.{list_any}
use Rattle.mm_page.specs.Slots.{no_slot, kept_page}
use Rattle.mm_page.proofs.mem_pages.mark_used.Given as goal

abbrev pub invariant-walk : goal.invariant-walk
invariant-walk l =
    let old = l.fn.slots.items in
    record {
      long : length l.slots.items ≡ length old;
      page : (i : ℕ) → (get_or l.slots.items i no_slot).page ≡ (get_or old i no_slot).page;
      used : (i : ℕ) → i < l.index → (get_or l.slots.items i no_slot).used ≡ list_any (λ m. m == i + 1) l.used;
      kept : (i : ℕ) → kept_page (get_or l.slots.items i no_slot) ≡ kept_page (get_or old i no_slot);
    }
