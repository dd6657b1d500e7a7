use Rattle.std.proofs.Common.{◌≡◌, ◌<◌, ℕ, [], if◌then◌else◌, length, get_or}
use Rattle.mm_page.specs.Slots.{no_slot, kept_page}
use Rattle.mm_page.proofs.mem_pages.keep_all.Given as goal

abbrev pub invariant-walk : goal.invariant-walk
invariant-walk l =
    let old = l.fn.slots.items in
    record {
      long : length l.slots.items ≡ length old;
      page : (i : ℕ) → (get_or l.slots.items i no_slot).page ≡ (get_or old i no_slot).page;
      used : (i : ℕ) → (get_or l.slots.items i no_slot).used ≡ (get_or old i no_slot).used;
      kept : (i : ℕ) → i < l.index → kept_page (get_or l.slots.items i no_slot) ≡ (if (get_or old i no_slot).used then (get_or old i no_slot).page else []);
    }
