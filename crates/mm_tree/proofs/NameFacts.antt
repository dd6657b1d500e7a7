-- A name, and the bytes that spell it.
use Rattle.std.proofs.Common.{◌≡◌, sym, ap, ◌∙◌, ℕ, Bool, true, leb, ◌&&◌, List, length}
use Rattle.std.specs.Str.{chars, IsUtf8, encode_utf8_all}
use Rattle.std.proofs.lemmas.Str.{encodes-chars}
use Rattle.mm_tree.specs.Characters.{is_name, is_short_name}

pub short : (bs : List ℕ) (b : Bool) → IsUtf8 bs → b ≡ is_name (chars bs) → b ≡ true → leb (length bs) 512 ≡ is_short_name (chars bs)
short bs b utf8 e h = sym (ap (λ t. t && leb (length (encode_utf8_all (chars bs))) 512) (sym e ∙ h) ∙ ap (λ (r : List ℕ). leb (length r) 512) (encodes-chars bs utf8))
