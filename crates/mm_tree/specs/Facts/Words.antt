-- The words of a node are words.
use Rattle.std.proofs.Common.{inl, inr, ◌≡◌, ℕ, true, List}
use Rattle.std.specs.Prelude.{flat_map}
use Rattle.mm_label.specs.Fronts.{Within}
use Rattle.mm_label.specs.Facts.Members.{within_joined, within_flat, within_filter}
use Rattle.mm_words.specs.Words.{is_word, name_pieces, name_words, text_words}
use Rattle.mm_tree.specs.declared.plain.Kind.{Kind}
use Rattle.mm_tree.specs.declared.plain.Kind.TheVariants.{Element, Words}
use Rattle.mm_tree.specs.Search.{attribute_words, own}

text_word : (w text : List ℕ) → Within w (text_words text) → is_word w ≡ true
text_word w text h = search within_filter

name_word : (w name : List ℕ) → Within w (name_words name) → is_word w ≡ true
name_word w name h = let t = within_flat text_words w (name_pieces name) h in text_word w t.0 t.2

pub own_word : (w : List ℕ) (kind : Kind) → Within w (own kind) → is_word w ≡ true
own_word w (Words text) h = text_word w text h
own_word w (Element name attributes) h = elim (within_joined w (name_words name) (flat_map attribute_words attributes) h) [
  | inl q ↦ name_word w name q
  | inr q ↦ let t = within_flat attribute_words w attributes q in let a = t.0 in elim (within_joined w (name_words a.name) (text_words a.value) t.2) [ inl r ↦ name_word w a.name r | inr r ↦ text_word w a.value r ]
]
