-- What the walk over one list keeps (Indexed Lookup Eager: Xu and Papakonstantinou, "Efficient Keyword
-- Search for Smallest LCAs in XML Databases", SIGMOD 2005).
use Rattle.std.specs.Prelude.{ℕ, List, [], ◌∷◌, ◌++◌, take, drop, ◌≡◌, ◌⊎◌, Option, cond}
use Rattle.mm_label.specs.Fronts.{Label, Front, is_front, Le, Apart, Within, Meets}
use Rattle.mm_lists.specs.Full.{IsFull, Rising}
use Rattle.mm_lists.specs.Lists.{head_of}

-- the answers so far, the candidate that is held, and the nodes of the list that were passed
pub record Walked (ls : List (List Label)) (done : List Label) (held : Label) (passed : List Label) : Type 0 where
  pub rising : Rising done
  pub before : (d : Label) → Within d done → Apart d held
  pub full : (d : Label) → Within d done → IsFull ls d
  pub held_full : IsFull ls held
  pub covers : (z v : Label) → IsFull ls z → Within v passed → Front z v → Meets z done ⊎ Front z held

-- the answers once a candidate came: the held one is an answer where the new one is neither above nor below it
abbrev pub taken_done : List Label → Label → Label → List Label
taken_done done held c = cond (is_front c held) done (cond (is_front held c) done (done ++ held ∷ []))

-- and which is held then
abbrev pub taken_held : Label → Label → Label
taken_held held c = cond (is_front c held) held c

-- the answers where nothing more comes
abbrev pub finished : List Label → Label → List Label
finished done [] = done
finished done (x ∷ a) = done ++ (x ∷ a) ∷ []

-- the walk has passed i nodes of the list and stands at the next
pub record Stands (ls : List (List Label)) (ms : List Label) (i : ℕ) (done : List Label) (held : Label) (at : Option Label) : Type 0 where
  pub walked : Walked ls done held (take i ms)
  pub here : at ≡ head_of (drop i ms)
  pub later : (m : Label) → Within m (drop i ms) → Le held m
