-- The target of an insertion, by its first piece, and what the tree to be put in is refused for.
use Rattle.std.proofs.Common.{inl, inr, ◌≡◌, ◌+◌, ◌≤◌, ℕ, Bool, true, false, not, IsTrue, [], ◌++◌, refl, ap, sym, subst, ◌∙◌, Option, Some, None, arith}
use Rattle.std.specs.Prelude.{if◌then◌else◌, nat_le, option_map}
use Rattle.std.proofs.lemmas.Bool.Decides.{nat_tests}
use Rattle.mm_host.specs.declared.damage.Damage.TheVariants as damage
use Rattle.mm_host.specs.declared.damage.Fault.{Fault}
use Rattle.mm_host.specs.declared.damage.Fault.TheVariants as fault
use Rattle.mm_label.specs.Between.{between}
use Rattle.mm_label.specs.Fronts.{Label, Within}
use Rattle.mm_label.specs.Label.{IsLabel, level}
use Rattle.mm_label.specs.Facts.Members.{within_flat, within_in, within_joined}
use Rattle.mm_keeper.specs.Entries.{Entries, Entry, Rises, index_of}
use Rattle.mm_tree.specs.declared.plain.Kind.{Kind}
use Rattle.mm_tree.specs.declared.plain.Kind.TheVariants.{Element, Words}
use Rattle.mm_tree.specs.declared.refusal.Refusal.{Refusal}
use Rattle.mm_tree.specs.declared.refusal.TreeError.{TreeError}
use Rattle.mm_tree.specs.declared.refusal.TreeError.TheVariants as error
use Rattle.mm_tree.specs.declared.refusal.Refusal.TheVariants.{Deep, Top}
use Rattle.mm_tree.specs.Edits.{Gap, found, has_node, is_text_node, label_in, last_label, placed_refusal, room_refusal}
use Rattle.mm_tree.specs.Facts.Labels.{node_is_labelled}
use Rattle.mm_tree.specs.Forests.{IsRefusal, is_well_formed, last_segment, level_limit, load_refusal, next_label, segment_below}
use Rattle.mm_tree.specs.Numbering.{Labelled}
use Rattle.mm_tree.specs.Search.{list_of, worded}
use Rattle.mm_tree.specs.Trees.{Tree, Trees, none, node, levels, one, preorder}
use Rattle.mm_tree.specs.Validity.{is_element, piece_count}
use Rattle.mm_image.specs.declared.parsed.Parsed.{Parsed}
use Rattle.mm_image.specs.declared.parsed.Parsed.TheVariants.{Chunk, Count, Occurrence}
use Rattle.mm_image.specs.Content.{piece}
use Rattle.mm_image.specs.Image.{chunks, chunks_of, count_of, counts, image, occurrences, occurrences_of, words}
use Rattle.mm_image.specs.Keys.{IsKeyed, chunk_key, key_of, occurrence_key}
use Rattle.mm_image.specs.Looking.{entry_at}
use Rattle.mm_image.specs.Subtrees.{IsUndamaged}
use Rattle.mm_image.specs.Facts.Finding.{IsAt, at_found, same_key}
use Rattle.mm_image.specs.Facts.LabelOrder.{Ancestry, ByteOrder}
use Rattle.mm_image.specs.Facts.Members.{chunk_in, listed_label, words_are}
use Rattle.mm_image.specs.Facts.Pieces.{few_pieces}
use Rattle.mm_image.specs.Facts.Rising.{nodes_of, within_range}
use Rattle.mm_edit.specs.Blame.{Blames}
use Rattle.mm_edit.specs.Inside.Placing.{BlamesHeld, begins_text, is_text_in}
use Rattle.mm_edit.specs.Plans.{IsRefusedBy, of_tree}
use Rattle.mm_edit.proofs.Nearest.{node_found, node_there}
use Rattle.mm_edit.proofs.Numbers.{blames_more}
use Rattle.mm_edit.proofs.Seeks.{label_told}

kind_text : (kind : Kind) → begins_text (piece kind 0) ≡ not (is_element kind)
kind_text (Element name attributes) = refl
kind_text (Words text) = refl

-- What the target's first piece tells of it.
pub record TellsTarget (x : Label) (f : Trees Labelled) (o : Option Bool) : Type 0 where
  pub absent : o ≡ None → has_node x f ≡ false
  pub there : (b : Bool) → o ≡ Some b → has_node x f ≡ true
  pub text : (b : Bool) → o ≡ Some b → is_text_node (found x f) ≡ b

pub target_told : ByteOrder → Ancestry → (x : Label) (f : Trees Labelled) (m : Entries) → IsTrue (is_well_formed f) → Rises m → m ≡ image f → IsLabel x → TellsTarget x f (is_text_in (entry_at m (index_of m (chunk_key x 0))))
target_told order ancestry x f m w r e g =
    by (entry_at m (index_of m (chunk_key x 0))) (subst (λ (z : Entries). IsAt z (chunk_key x 0) (entry_at m (index_of m (chunk_key x 0)))) e (at_found m (chunk_key x 0) r))
  where
    none : IsAt (image f) (chunk_key x 0) None → (b : Bool) → has_node x f ≡ b → b ≡ false
    none h false q = refl
    none h true q =
        let t = node_found x f q in
        absurd (h (chunk_key (t.0).0.label 0, piece (t.0).0.kind 0) (chunk_in f (t.0).0 t.2) (ap (λ (z : Label). chunk_key z 0) t.3))

    by : (o : Option Entry) → IsAt (image f) (chunk_key x 0) o → TellsTarget x f (is_text_in o)
    by None h = record { absent = λ q. none h (has_node x f) refl; there = λ b q. absurd cc; text = λ b q. absurd cc }
    by (Some d) h =
        let there = node_there x f (label_told order ancestry f d x 0 w h.0 g h.1) in
        let t = node_found x f there in
        let at = same_key (image f) d (chunk_key (t.0).0.label 0, piece (t.0).0.kind 0) (subst Rises e r) h.0 (chunk_in f (t.0).0 t.2) (h.1 ∙ ap (λ (z : Label). chunk_key z 0) (sym t.3)) in
        let is : begins_text d.1 ≡ not (is_element (t.0).0.kind) = ap (λ (z : Entry). begins_text z.1) at ∙ kind_text (t.0).0.kind in
        record { absent = λ q. absurd cc; there = λ b q. there; text = λ b q. let s : begins_text d.1 ≡ b = cc in ap is_text_node t.1 ∙ sym is ∙ s }

-- ---- a load is an insertion behind all trees

last_segments : (l : Option Label) (f : Trees Labelled) → option_map (λ z. segment_below [] z) (last_label l f) ≡ last_segment [] (option_map (λ z. segment_below [] z) l) f
last_segments l none = refl
last_segments l (node e inner rest) = last_segments (Some e.label) rest

abbrev pub top : Trees Labelled → Gap
top f = record { parent = []; left = last_label None f; right = None }

pub next_is : (f : Trees Labelled) → label_in (top f) ≡ next_label f
next_is f = ap (λ (z : Option Label). between z None) (last_segments None f)

pub load_is : (t : Tree Kind) (f : Trees Labelled) (g : Gap) → g ≡ top f → load_refusal t f ≡ placed_refusal (level g.parent) (label_in g) t
load_is t f g e =
    ap (λ (n : ℕ). if not (is_element t.0) then Some Top else (if not (nat_le n level_limit) then Some Deep else room_refusal (next_label f) t)) (less (levels (one t)))
    ∙ ap (λ (x : Label). placed_refusal 0 x t) (sym (next_is f))
    ∙ ap (λ (z : Gap). placed_refusal (level z.parent) (label_in z) t) (sym e)
  where
    less : (n : ℕ) → n ≡ 0 + n
    less n = omega arith

pub loaded_label : (f : Trees Labelled) (g : Gap) → g ≡ top f → label_in g ≡ next_label f
loaded_label f g e = ap label_in e ∙ next_is f

-- a tree's refusal is the edit's
pub refused_so : (e : TreeError) (r : Option Refusal) → IsRefusal e r → IsRefusedBy r (of_tree e)
refused_so (error.Refused r) o h = h
refused_so error.Memory o h = tt

-- ---- over an image no key is broken

stands_for : (f : Trees Labelled) → IsTrue (is_well_formed f) → (e : Entry) → Within e (image f) → (p : Parsed) × IsKeyed p × (key_of p ≡ e.0)
stands_for f w e i = elim (within_joined e (chunks f) (occurrences (worded f) ++ counts (worded f)) i) [
  | inl q ↦
      let t = within_flat chunks_of e (preorder f) q in
      let r = within_range (λ n. (chunk_key (t.0).label n, piece (t.0).kind n)) e (piece_count (t.0).kind) 0 t.2 in
      let few = few_pieces (t.0).kind ((nodes_of f w).kind t.0 t.1) in
      let most : piece_count (t.0).kind ≤ 4294967296 = grind (arith, nat_tests, few) in
      let l = r.2 in
      (Chunk (t.0).label r.0, (node_is_labelled f w t.0 t.1, omega arith), sym (ap (λ (z : Entry). z.0) r.3))
  | inr q ↦ elim (within_joined e (occurrences (worded f)) (counts (worded f)) q) [
    | inl p ↦
        let t = within_flat (occurrences_of (worded f)) e (words (worded f)) p in
        let u = within_in (λ (l : Label). (occurrence_key t.0 l, [])) e (list_of t.0 (worded f)) t.2 in
        (Occurrence t.0 u.0, (words_are f t.0 t.1, listed_label t.0 f w u.0 u.1), sym (ap (λ (z : Entry). z.0) u.2))
    | inr p ↦ let u = within_in (count_of (worded f)) e (words (worded f)) p in (Count u.0, words_are f u.0 u.1, sym (ap (λ (z : Entry). z.0) u.2))
  ]
]

pub unblamed : (f : Trees Labelled) (m : Entries) (d : Fault) → IsTrue (is_well_formed f) → m ≡ image f → BlamesHeld m d → IsUndamaged d
unblamed f m d w e b = by d (blames_more _ (λ _. ⊥) d (λ key h. let t = stands_for f w h.0 (subst (Within h.0) e h.1) in h.3 t.0 t.1 (t.2 ∙ sym h.2)) b)
  where
    by : (d : Fault) → Blames (λ _. ⊥) d → IsUndamaged d
    by (fault.Damaged (damage.Key key)) b = b
    by (fault.Damaged (damage.Cut place at needed held)) b = b
    by (fault.Damaged (damage.Digest at stored found)) b = b
    by (fault.Damaged (damage.Sort at stored due)) b = b
    by (fault.Damaged (damage.Size at stored least most)) b = b
    by (fault.Damaged (damage.Page page why stored due)) b = b
    by fault.DiskFault b = tt
    by fault.Spent b = tt
    by fault.Memory b = tt
