-- What look-ups answer of the entry that was found, over any map.
use Rattle.std.specs.Prelude.{ℕ, ℤ, List, ◌≡◌, ◌⊎◌, Option, Some, None, Result, IfOk, IfErr, IsTrue}
use Rattle.mm_host.specs.declared.damage.Damage.{Damage}
use Rattle.mm_host.specs.declared.damage.Damage.TheVariants.{Key}
use Rattle.mm_host.specs.declared.damage.Fault.{Fault}
use Rattle.mm_host.specs.declared.damage.Fault.TheVariants.{Damaged}
use Rattle.mm_label.specs.Fronts.{Within}
use Rattle.mm_label.specs.Label.{IsLabel, SpellsNoLabel}
use Rattle.mm_words.specs.Words.{is_word}
use Rattle.mm_keeper.specs.Entries.{Entry, Entries}
use Rattle.mm_image.specs.Content.{count_in}
use Rattle.mm_image.specs.Keys.{count_key, occurrence_key}
use Rattle.mm_keeper_lists.specs.Ranges.{range_key}

-- A label is told exactly where the found key is of the word's range and spells it, and none where nothing was found or the key is of no such range.
abbrev pub Tells : List ℕ → Option Entry → Option (List ℤ) → Type 0
Tells w None answer = answer ≡ None
Tells w (Some e) None = (r : List ℕ) → e.0 ≡ range_key w r → ⊥
Tells w (Some e) (Some l) = IsLabel l × (e.0 ≡ occurrence_key w l)

-- a key of the word's range in which no label stands
abbrev pub LacksLabel : List ℕ → Entry → Type 0
LacksLabel w e = (r : List ℕ) × (e.0 ≡ range_key w r) × SpellsNoLabel r

-- Damage is told only with a found key of the word's range that spells no label.
abbrev pub Blames : List ℕ → Option Entry → Fault → Type 0
Blames w None (Damaged d) = ⊥
Blames w (Some e) (Damaged (Key k)) = (k ≡ e.0) × LacksLabel w e
Blames w (Some e) (Damaged d) = ⊥
Blames w found fault = Unit {0}

-- What a look-up answers of the entry that it found.
pub record ReadsLabel (w : List ℕ) (found : Option Entry) (result : Result (Option (List ℤ)) Fault) : Type 0 where
  pub told : IfOk result (Tells w found)
  pub blame : IfErr result (Blames w found)

-- the number in the count's entry, 0 without one
abbrev pub TellsCount : Option Entry → ℕ → Type 0
TellsCount None n = n ≡ 0
TellsCount (Some e) n = count_in e.1 ≡ Some n

-- damage is told only with the count's key, where its value isn't eight bytes
abbrev pub BlamesCount : Option Entry → Fault → Type 0
BlamesCount None (Damaged d) = ⊥
BlamesCount (Some e) (Damaged (Key k)) = (k ≡ e.0) × (count_in e.1 ≡ None)
BlamesCount (Some e) (Damaged d) = ⊥
BlamesCount found fault = Unit {0}

pub record ReadsCount (found : Option Entry) (result : Result ℕ Fault) : Type 0 where
  pub told : IfOk result (TellsCount found)
  pub blame : IfErr result (BlamesCount found)

-- ---- what is damaged in a map

-- the word's count without a number in it
abbrev pub LacksCount : List ℕ → Entry → Type 0
LacksCount w e = (e.0 ≡ count_key w) × (count_in e.1 ≡ None)

-- an entry of a word's range or a word's count that can't be read
abbrev pub IsUnreadable : Entry → Type 0
IsUnreadable e = (w : List ℕ) × IsTrue (is_word w) × (LacksLabel w e ⊎ LacksCount w e)

-- the damage of a map is the key of an entry that can't be read
abbrev pub IsDamageOf : Entries → Damage → Type 0
IsDamageOf m d = (e : Entry) × Within e m × IsUnreadable e × (d ≡ Key e.0)
