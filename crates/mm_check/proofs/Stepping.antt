-- What a reader knows after one entry more.
use Rattle.std.proofs.Common.{◌≡◌, ℕ, ℤ, ◌<◌, ◌≤◌, Bool, true, false, cond, ◌&&◌, ◌||◌, not, List, [], ◌∷◌, ◌++◌, length, take, filter, refl, ap, ap₂, sym, subst, ◌∙◌, append-nil, Option, Some, None, Result, Ok, Err, Ordering, Less, Equal, Greater, nat_cmp}
use Rattle.std.specs.Prelude.{◌==◌, nat_le, nat_lt, option_map}
use Rattle.std.specs.BTreeMap.{BTreeMap}
use Rattle.std.specs.List.{list_any}
use Rattle.std.specs.Ordering.{int_cmp, int_eq, is_lt, ordering_then}
use Rattle.std.specs.Cmp.Lexicographic.{pointwise, slice_cmp}
use Rattle.std.specs.Str.{bytes_eq}
use Rattle.std.proofs.lemmas.Bool.{and_from, and_parts}
use Rattle.std.proofs.lemmas.List.{take_all}
use Rattle.std.proofs.lemmas.Slice.Eq.{bytes_eq-Decides}
use Rattle.mm_keeper.specs.Entries.{Entries, Entry, below}
use Rattle.mm_label.specs.Fronts.{Label, Le, Lt, is_front}
use Rattle.mm_label.specs.Label.{IsLabel, is_child, level}
use Rattle.mm_label.specs.Facts.Fronts.{front_le, front_refl, is_front_of, le_antisym, le_trans}
use Rattle.mm_label.specs.Facts.Order.{before_lt, exact, label_other, label_same}
use Rattle.mm_tree.specs.Forests.{level_limit}
use Rattle.mm_tree.specs.KeywordLists.{AreFilled, list_in}
use Rattle.mm_tree.specs.Numbering.{Labelled}
use Rattle.mm_tree.specs.Search.{own}
use Rattle.mm_tree.specs.Validity.{is_element}
use Rattle.mm_image.specs.Content.{piece_limit}
use Rattle.mm_image.specs.Fields.{may_stand}
use Rattle.mm_image.specs.Keys.{StandsFor, chunk_key, key_of}
use Rattle.mm_image.specs.Laws.{ChunkOrder}
use Rattle.mm_image.specs.declared.parsed.Parsed.{Parsed}
use Rattle.mm_image.specs.declared.parsed.Parsed.TheVariants as parsed
use Rattle.mm_check.specs.declared.verdict.Named.{Named}
use Rattle.mm_check.specs.Reading.{Open, Place, Progress, ◌&>◌, begins_text, continued, ended, hangs, is_label, is_piece, is_place, not_due, ok_if, place_in, place_of, read, started, step_at}
use Rattle.mm_check.specs.Inside.Path.{AreBefore, AreLabels, AreNested, ComeBefore, Descend, path_here, path_to}
use Rattle.mm_check.specs.declared.reader.Reader.{Reader}
use Rattle.mm_check.specs.declared.started.Started.{Started}
use Rattle.mm_check.specs.declared.stop.Stop.{Stop}
use Rattle.mm_check.specs.declared.stop.Stop.TheVariants as stop
use Rattle.mm_check.specs.Inside.Reader.{AreNamed, Begins, Ends, HasEnded, HasGrown, HasStepped, Kept, Stands, Steps, as_open, may_begin, outcome, unless_wrong, wrong_in}
use Rattle.mm_check.proofs.Parts.{label_of, less_of, piece_size, placed, same_number, yes_eq}
use Rattle.mm_check.proofs.Paths.{in_front, path_hangs, path_left, path_nested, up_to}
use Rattle.mm_check.proofs.Running.{ComponentsAgain, place_of_key}

abbrev Map : Type 0
Map = BTreeMap (List ℕ) (List (List ℤ))

-- ---- keys

-- of a key that is no chunk's
pub no_place : (key : List ℕ) → ((label : List ℤ) (number : ℕ) → IsLabel label → number < 4294967296 → chunk_key label number ≡ key → ⊥) → place_of key ≡ None
unfolding place_of
no_place key h = by (is_place (place_in key) key) refl
  where
    by : (t : Bool) → is_place (place_in key) key ≡ t → cond t (Some (place_in key)) None ≡ None
    by false q = refl
    by true q =
        let a = and_parts (is_label (place_in key).label) _ q in
        let b = and_parts (nat_lt (place_in key).number 4294967296) _ a.1 in
        absurd (h (place_in key).label (place_in key).number (label_of (place_in key).label a.0) (less_of (place_in key).number 4294967296 b.0) ((bytes_eq-Decides (chunk_key (place_in key).label (place_in key).number) key).0 b.1))

abbrev place_parsed : Option Parsed → Option Place
place_parsed None = None
place_parsed (Some (parsed.Chunk label number)) = Some (record { label = label; number = number })
place_parsed (Some (parsed.Occurrence word label)) = None
place_parsed (Some (parsed.Count word)) = None

pub parsed_place : ComponentsAgain → (key : List ℕ) (p : Option Parsed) → StandsFor key p → place_parsed p ≡ place_of key
parsed_place again key None h = sym (no_place key (λ label number g l e. h (parsed.Chunk label number) (g, l) e))
parsed_place again key (Some (parsed.Chunk label number)) h = sym (ap place_of (sym h.1) ∙ place_of_key again label number h.0.0 h.0.1)
parsed_place again key (Some (parsed.Occurrence word label)) h = sym (no_place key (λ l n g b e. let z : chunk_key l n ≡ key_of (parsed.Occurrence word label) = e ∙ sym h.1 in cc))
parsed_place again key (Some (parsed.Count word)) h = sym (no_place key (λ l n g b e. let z : chunk_key l n ≡ key_of (parsed.Count word) = e ∙ sym h.1 in cc))

-- a chunk of another node that comes later is that of a later node
pub later_label : ChunkOrder → (a b : Label) (m n : ℕ) → IsLabel a → IsLabel b → m < 4294967296 → n < 4294967296 → below (chunk_key a m) (chunk_key b n) ≡ true → (a ≡ b → ⊥) → Lt a b
later_label order a b m n g h k l e d = by (slice_cmp int_cmp a b) refl (sym (ap is_lt (order a b m n g h k l)) ∙ e)
  where
    by : (o : Ordering) → slice_cmp int_cmp a b ≡ o → is_lt (ordering_then o (nat_cmp m n)) ≡ true → Lt a b
    by Less q e = before_lt a b q
    by Equal q e = absurd (d (exact a b q))
    by Greater q e = absurd cc

-- ---- one after the other

and_then : {A B C : Type 0} (r : Result A Named) (f : A → Result B Named) (g : B → Result C Named) → ((r &> f) &> g) ≡ (r &> λ x. f x &> g)
and_then (Ok x) f g = refl
and_then (Err n) f g = refl

then_ok : {A B : Type 0} (w : Option Named) (r : Result A Named) (f : A → Result B Named) (x : A) → unless_wrong w r ≡ Ok x → unless_wrong w (r &> f) ≡ f x
then_ok None (Ok y) f x e = let p : y ≡ x = cc in ap f p
then_ok None (Err n) f x e = absurd cc
then_ok (Some n) r f x e = absurd cc

then_err : {A B : Type 0} (w : Option Named) (r : Result A Named) (f : A → Result B Named) (n : Named) → unless_wrong w r ≡ Err n → unless_wrong w (r &> f) ≡ Err n
then_err None (Ok y) f n e = absurd cc
then_err None (Err m) f n e = let p : m ≡ n = cc in ap Err p
then_err (Some m) r f n e = let p : m ≡ n = cc in ap Err p

abbrev goes : Entries → Progress → Result (List Labelled) Named
goes es r = read r.nodes r.node es

abbrev as_progress : List Labelled → Option Open → Progress
as_progress nodes node = record { nodes = nodes; node = node }

-- ---- a chunk

at_chunk : (nodes : List Labelled) (o : Open) (p : Place) (e : Entry) (es : Entries) (t : Bool) → place_of e.0 ≡ Some p → pointwise int_eq o.label p.label ≡ t
    → outcome (as_progress nodes (Some o)) (e ∷ es) ≡ unless_wrong (wrong_in o) (cond t (continued nodes o p e) (ended nodes (Some o) &> λ nodes. started nodes p e) &> goes es)
at_chunk nodes o p e es t q s =
    ap (λ (q : Option Place). unless_wrong (wrong_in o) (step_at nodes (Some o) q e &> goes es)) q
    ∙ ap (λ (t : Bool). unless_wrong (wrong_in o) (cond t (continued nodes o p e) (ended nodes (Some o) &> λ nodes. started nodes p e) &> goes es)) s

pub same_chunk : (nodes : List Labelled) (o : Open) (p : Place) (e : Entry) (es : Entries) → place_of e.0 ≡ Some p → o.label ≡ p.label → outcome (as_progress nodes (Some o)) (e ∷ es) ≡ unless_wrong (wrong_in o) (continued nodes o p e &> goes es)
same_chunk nodes o p e es q s = at_chunk nodes o p e es true q (label_same o.label p.label s)

pub other_chunk : (nodes : List Labelled) (o : Open) (p : Place) (e : Entry) (es : Entries) (ns : List Labelled) → place_of e.0 ≡ Some p → (o.label ≡ p.label → ⊥) → unless_wrong (wrong_in o) (ended nodes (Some o)) ≡ Ok ns
    → outcome (as_progress nodes (Some o)) (e ∷ es) ≡ (started ns p e &> goes es)
other_chunk nodes o p e es ns q d h =
    at_chunk nodes o p e es false q (label_other o.label p.label d)
    ∙ ap (unless_wrong (wrong_in o)) (and_then (ended nodes (Some o)) (λ nodes. started nodes p e) (goes es))
    ∙ then_ok (wrong_in o) (ended nodes (Some o)) (λ nodes. started nodes p e &> goes es) ns h

pub other_named : (nodes : List Labelled) (o : Open) (p : Place) (e : Entry) (es : Entries) (n : Named) → place_of e.0 ≡ Some p → (o.label ≡ p.label → ⊥) → unless_wrong (wrong_in o) (ended nodes (Some o)) ≡ Err n → outcome (as_progress nodes (Some o)) (e ∷ es) ≡ Err n
other_named nodes o p e es n q d h =
    at_chunk nodes o p e es false q (label_other o.label p.label d)
    ∙ ap (unless_wrong (wrong_in o)) (and_then (ended nodes (Some o)) (λ nodes. started nodes p e) (goes es))
    ∙ then_err (wrong_in o) (ended nodes (Some o)) (λ nodes. started nodes p e &> goes es) n h

pub named_on : {A B : Type 0} (r : Result A Named) (f : A → Result B Named) (n : Named) → r ≡ Err n → (r &> f) ≡ Err n
named_on r f n e = ap (λ z. z &> f) e

-- ---- a first piece

abbrev pub first_open : Place → List ℕ → Open
first_open p value = record { label = p.label; number = 0; last = value; content = value }

pub begun : (nodes : List Labelled) (p : Place) (e : Entry) (es : Entries) → may_begin nodes p e.1 ≡ true → chunk_key p.label p.number ≡ e.0
    → (started nodes p e &> goes es) ≡ unless_wrong (wrong_in (first_open p e.1)) (read nodes (Some (first_open p e.1)) es)
begun nodes p e es m k =
    ap (λ (t : Bool). ok_if t (as_progress nodes (Some (record { label = p.label; number = p.number; last = e.1; content = e.1 }))) (not_due e) &> goes es) (test (p.number == 0) (hangs nodes p.label) (nat_le (level p.label) level_limit) (is_piece e.1) (may_stand e.1) (not ((level p.label == 1) && begins_text e.1)) m)
    ∙ ap (λ (n : ℕ). ok_if (may_stand e.1) (as_progress nodes (Some (record { label = p.label; number = n; last = e.1; content = e.1 }))) (not_due e) &> goes es) zeroth
    ∙ by (may_stand e.1) refl
  where
    test : (a b c d s t : Bool) → (a && (b && (c && (d && t)))) ≡ true → (a && (b && (c && (d && (s && t))))) ≡ s
    test true true true true true true h = refl
    test true true true true false true h = refl
    test true true true true s false h = absurd cc
    test true true true false s t h = absurd cc
    test true true false d s t h = absurd cc
    test true false c d s t h = absurd cc
    test false b c d s t h = absurd cc

    zeroth : p.number ≡ 0
    zeroth = same_number p.number 0 (and_parts (p.number == 0) _ m).0

    size : length e.1 ≤ piece_limit
    size =
        let a = and_parts (p.number == 0) _ m in
        let b = and_parts (hangs nodes p.label) _ a.1 in
        let c = and_parts (nat_le (level p.label) level_limit) _ b.1 in
        let d = and_parts (is_piece e.1) _ c.1 in (piece_size e.1 d.0).1

    key : (chunk_key p.label 0, e.1) ≡ e
    key = ap (λ (x : List ℕ). (x, e.1)) (ap (chunk_key p.label) (sym zeroth) ∙ k)

    whole : take piece_limit e.1 ≡ e.1
    whole = take_all piece_limit e.1 size

    wrong : wrong_in (first_open p e.1) ≡ cond (may_stand e.1) None (Some (not_due e))
    wrong = ap₂ (λ (t : Bool) (v : List ℕ). cond t None (Some (not_due (chunk_key p.label 0, v)))) (ap may_stand whole) whole ∙ ap (λ (z : Entry). cond (may_stand e.1) None (Some (not_due z))) key

    by : (t : Bool) → may_stand e.1 ≡ t → (ok_if t (as_progress nodes (Some (first_open p e.1))) (not_due e) &> goes es) ≡ unless_wrong (wrong_in (first_open p e.1)) (read nodes (Some (first_open p e.1)) es)
    by true q = sym (ap (λ (w : Option Named). unless_wrong w (read nodes (Some (first_open p e.1)) es)) (wrong ∙ ap (λ (t : Bool). cond t None (Some (not_due e))) q))
    by false q = sym (ap (λ (w : Option Named). unless_wrong w (read nodes (Some (first_open p e.1)) es)) (wrong ∙ ap (λ (t : Bool). cond t None (Some (not_due e))) q))

pub not_begun : (nodes : List Labelled) (p : Place) (e : Entry) → may_begin nodes p e.1 ≡ false → started nodes p e ≡ Err (not_due e)
not_begun nodes p e m =
    ap (λ (t : Bool). ok_if t (as_progress nodes (Some (record { label = p.label; number = p.number; last = e.1; content = e.1 }))) (not_due e)) (test (p.number == 0) (hangs nodes p.label) (nat_le (level p.label) level_limit) (is_piece e.1) (may_stand e.1) (not ((level p.label == 1) && begins_text e.1)) m)
  where
    test : (a b c d s t : Bool) → (a && (b && (c && (d && t)))) ≡ false → (a && (b && (c && (d && (s && t))))) ≡ false
    test true true true true true true h = absurd cc
    test true true true true false true h = refl
    test true true true true true false h = refl
    test true true true true false false h = refl
    test true true true false s t h = refl
    test true true false d s t h = refl
    test true false c d s t h = refl
    test false b c d s t h = refl

-- ---- paths of what was read

pub path_labels : (x : Label) (nodes : List Labelled) → AreNamed nodes → AreLabels (path_to x nodes)
path_labels x [] l = tt
path_labels x (e ∷ nodes) l = joined (path_to x nodes) _ (path_labels x nodes l.1) (by (is_element e.kind && is_front e.label x))
  where
    joined : (ys zs : List Label) → AreLabels ys → AreLabels zs → AreLabels (ys ++ zs)
    joined [] zs a b = b
    joined (y ∷ ys) zs a b = (a.0, joined ys zs a.1 b)

    by : (t : Bool) → AreLabels (cond t (e.label ∷ []) [])
    by true = (l.0, tt)
    by false = tt

pub path_before : (x z : Label) (nodes : List Labelled) → ComeBefore nodes z → AreBefore (path_to x nodes) z
path_before x z [] b = tt
path_before x z (e ∷ nodes) b = joined (path_to x nodes) _ (path_before x z nodes b.1) (by (is_element e.kind && is_front e.label x))
  where
    joined : (ys zs : List Label) → AreBefore ys z → AreBefore zs z → AreBefore (ys ++ zs) z
    joined [] zs a b = b
    joined (y ∷ ys) zs a b = (a.0, joined ys zs a.1 b)

    by : (t : Bool) → AreBefore (cond t (e.label ∷ []) []) z
    by true = (b.0, tt)
    by false = tt

le_refl : (a : Label) → Le a a
le_refl a = front_le a a (front_refl a)

-- the path before a label that comes later
pub here_labels : (nodes : List Labelled) → AreNamed nodes → AreLabels (path_here nodes)
here_labels [] l = tt
here_labels (e ∷ nodes) l = path_labels e.label (e ∷ nodes) l

pub here_nested : (nodes : List Labelled) → Descend nodes → AreNested (path_here nodes)
here_nested [] d = tt
here_nested (e ∷ nodes) d = path_nested e.label (e ∷ nodes) d

pub here_before : (z : Label) (nodes : List Labelled) → ComeBefore nodes z → AreBefore (path_here nodes) z
here_before z [] b = tt
here_before z (e ∷ nodes) b = path_before e.label z (e ∷ nodes) b

pub here_left : (x : Label) (nodes : List Labelled) → Descend nodes → ComeBefore nodes x → filter (in_front x) (path_here nodes) ≡ path_to x nodes
here_left x [] d b = refl
here_left x (e ∷ nodes) d b = path_left e.label x (e ∷ nodes) (le_refl e.label, up_to nodes e.label d.0) b.0.0

-- whether a label hangs on what was read
pub here_hangs : (x : Label) (nodes : List Labelled) (t : Bool) → Descend nodes → ComeBefore nodes x → t ≡ (is_child [] x || list_any (λ y. is_child y x) (filter (in_front x) (path_here nodes))) → t ≡ hangs nodes x
here_hangs x nodes t d b e = e ∙ ap (λ (ys : List Label). is_child [] x || list_any (λ y. is_child y x) ys) (here_left x nodes d b) ∙ sym (path_hangs nodes x)

-- a label after the latest one comes after all
lt_trans : (a b c : Label) → Lt a b → Lt b c → Lt a c
lt_trans a b c f g = (le_trans a b c f.0 g.0, λ e. g.1 (le_antisym b c g.0 (subst (λ (z : Label). Le z b) e f.0)))

come_later : (nodes : List Labelled) (a b : Label) → ComeBefore nodes a → Lt a b → ComeBefore nodes b
come_later [] a b c l = tt
come_later (e ∷ nodes) a b c l = (lt_trans e.label a b c.0 l, come_later nodes a b c.1 l)

pub all_before : (d : Labelled) (nodes : List Labelled) (a b : Label) → d.label ≡ a → ComeBefore nodes a → Lt a b → ComeBefore (d ∷ nodes) b
all_before d nodes a b e c l = (subst (λ (z : Label). Lt z b) (sym e) l, come_later nodes a b c l)

-- ---- a node that ends

-- where the path goes on
pub path_element : (d : Labelled) (nodes : List Labelled) (path : List Label) → path ≡ path_to d.label nodes → is_element d.kind ≡ true → path ++ d.label ∷ [] ≡ path_here (d ∷ nodes)
path_element d nodes path e k =
    ap (λ (z : List Label). z ++ d.label ∷ []) e
    ∙ ap (λ (t : Bool). path_to d.label nodes ++ cond t (d.label ∷ []) []) (sym (and_from (is_element d.kind) (is_front d.label d.label) k (is_front_of d.label d.label (front_refl d.label))))

pub path_text : (d : Labelled) (nodes : List Labelled) (path : List Label) → path ≡ path_to d.label nodes → is_element d.kind ≡ false → path ≡ path_here (d ∷ nodes)
path_text d nodes path e k =
    e ∙ sym (append-nil (path_to d.label nodes))
    ∙ ap (λ (t : Bool). path_to d.label nodes ++ cond (t && is_front d.label d.label) (d.label ∷ []) []) (sym k)

pub kept_more : (old new : Map) (d : Labelled) (nodes : List Labelled) → Kept old nodes → ComeBefore nodes d.label → IsLabel d.label → ((w : List ℕ) → list_in new w ≡ list_in old w ++ cond (list_any (bytes_eq w) (own d.kind)) (d.label ∷ []) []) → (AreFilled old → AreFilled new) → Kept new (d ∷ nodes)
kept_more old new d nodes k b l h f = record {
  held = λ w. h w ∙ ap (λ (z : List (List ℤ)). z ++ cond (list_any (bytes_eq w) (own d.kind)) (d.label ∷ []) []) (k.held w);
  filled = f k.filled;
  order = (b, k.order);
  labels = (l, k.labels);
}

-- ---- whether a node may begin

-- what a first piece must be beside its number and the labels above it
abbrev pub stands_high : List ℤ → List ℕ → Bool
stands_high label value = nat_le (level label) level_limit && (is_piece value && not ((level label == 1) && begins_text value))

pub not_zero : (nodes : List Labelled) (p : Place) (value : List ℕ) → (p.number ≡ 0 → ⊥) → may_begin nodes p value ≡ false
not_zero nodes p value n = by (p.number == 0) refl
  where
    by : (t : Bool) → (p.number == 0) ≡ t → (t && (hangs nodes p.label && stands_high p.label value)) ≡ false
    by true e = absurd (n (same_number p.number 0 e))
    by false e = refl

pub not_hung : (nodes : List Labelled) (p : Place) (value : List ℕ) → hangs nodes p.label ≡ false → may_begin nodes p value ≡ false
not_hung nodes p value e = ap (λ (t : Bool). (p.number == 0) && (t && stands_high p.label value)) e ∙ by (p.number == 0)
  where
    by : (t : Bool) → (t && false) ≡ false
    by true = refl
    by false = refl

pub not_high : (nodes : List Labelled) (p : Place) (value : List ℕ) → stands_high p.label value ≡ false → may_begin nodes p value ≡ false
not_high nodes p value e = ap (λ (t : Bool). (p.number == 0) && (hangs nodes p.label && t)) e ∙ by (p.number == 0) (hangs nodes p.label)
  where
    by : (t u : Bool) → (t && (u && false)) ≡ false
    by true true = refl
    by true false = refl
    by false u = refl

pub may_all : (nodes : List Labelled) (p : Place) (value : List ℕ) → p.number ≡ 0 → hangs nodes p.label ≡ true → stands_high p.label value ≡ true → may_begin nodes p value ≡ true
may_all nodes p value n h s = and_from (p.number == 0) _ (yes_eq p.number 0 n) (and_from (hangs nodes p.label) _ h s)

-- of the path before a label
pub hangs_told : (x : Label) (nodes : List Labelled) (path : List Label) (t : Bool) → path ≡ path_here nodes → Descend nodes → AreNamed nodes → ComeBefore nodes x
    → (AreBefore path x → AreNested path → AreLabels path → t ≡ (is_child [] x || list_any (λ y. is_child y x) (filter (in_front x) path))) → t ≡ hangs nodes x
hangs_told x nodes path t w d l b h =
    let told = h (subst (λ (ys : List Label). AreBefore ys x) (sym w) (here_before x nodes b)) (subst AreNested (sym w) (here_nested nodes d)) (subst AreLabels (sym w) (here_labels nodes l)) in
    here_hangs x nodes t d b (told ∙ ap (λ (ys : List Label). is_child [] x || list_any (λ y. is_child y x) (filter (in_front x) ys)) w)

pub way_told : (x : Label) (nodes : List Labelled) (old new : List Label) → old ≡ path_here nodes → Descend nodes → ComeBefore nodes x → (AreNested old → new ≡ filter (in_front x) old) → new ≡ path_to x nodes
way_told x nodes old new w d b h = h (subst AreNested (sym w) (here_nested nodes d)) ∙ ap (filter (in_front x)) w ∙ here_left x nodes d b

-- ---- a reader after one entry

-- what holds where a node is being read
pub at_node : (old : Reader) (p : Progress) (s : Started) (F : Progress → Type 0) → Stands old p → old.node ≡ Some s → (Stands old (as_progress p.nodes (Some (as_open s))) → F (as_progress p.nodes (Some (as_open s)))) → F p
at_node old p s F st e f =
    let q : p.node ≡ Some (as_open s) = st.node ∙ ap (option_map as_open) e in
    subst (λ (n : Option Open). F (as_progress p.nodes n)) (sym q) (f (subst (λ (n : Option Open). Stands old (as_progress p.nodes n)) q st))

abbrev pub with_node : Reader → Started → Reader
with_node old s = record { alloc = old.alloc; nodes = old.nodes; lists = old.lists; path = old.path; node = Some s }

pub step_grown : (old : Reader) (nodes : List Labelled) (o : Open) (s : Started) (p : Place) (e : Entry) → Stands old (as_progress nodes (Some o)) → place_of e.0 ≡ Some p → o.label ≡ p.label → chunk_key p.label p.number ≡ e.0 → HasGrown o p.number e s → HasStepped (as_progress nodes (Some o)) e (with_node old s)
step_grown old nodes o s p e st q same k h = record {
  nodes = nodes;
  node = as_open s;
  stands = record { number = st.number; kept = st.kept; way = st.way ∙ ap (λ (x : Label). path_to x nodes) (sym h.label); node = refl; later = (subst (ComeBefore nodes) (sym h.label) st.later.0, subst IsLabel (sym h.label) st.later.1) };
  key = ap₂ chunk_key (h.label ∙ same) h.number ∙ k;
  same = λ es. same_chunk nodes o p e es q same ∙ h.same nodes es;
}

pub step_not_ended : (nodes : List Labelled) (o : Open) (p : Place) (e : Entry) (ended new : Reader) (stopped : Stop) → place_of e.0 ≡ Some p → (o.label ≡ p.label → ⊥) → Ends nodes o ended (Err stopped) → Steps (as_progress nodes (Some o)) e new (Err stopped)
step_not_ended nodes o p e ended new (stop.Named n) q d h = λ es. other_named nodes o p e es n q d h
step_not_ended nodes o p e ended new (stop.Fault f) q d h = tt

pub step_begun : (before : Progress) (nodes : List Labelled) (p : Place) (e : Entry) (new : Reader) (r : Result (Unit {0}) Stop) → ((es : Entries) → outcome before (e ∷ es) ≡ (started nodes p e &> goes es)) → Begins nodes p e new r → Steps before e new r
step_begun before nodes p e new (Ok x) t h = record { nodes = nodes; node = h.node; stands = h.stands; key = h.key; same = λ es. t es ∙ h.same es }
step_begun before nodes p e new (Err (stop.Named n)) t h = λ es. t es ∙ named_on (started nodes p e) (goes es) n h
step_begun before nodes p e new (Err (stop.Fault f)) t h = tt

-- a node ended, and another one comes behind it
pub begins_after : ChunkOrder → (old ended new : Reader) (nodes : List Labelled) (o : Open) (p : Place) (e : Entry) (r : Result (Unit {0}) Stop)
    → Stands old (as_progress nodes (Some o)) → o.number < 4294967296 → below (chunk_key o.label o.number) e.0 ≡ true → place_of e.0 ≡ Some p → (o.label ≡ p.label → ⊥) → HasEnded nodes o ended → ended.nodes ≡ old.nodes
    → ((ns : List Labelled) → ended.nodes ≡ length ns → Kept ended.lists ns → ComeBefore ns p.label → IsLabel p.label → ended.path ≡ path_here ns → Begins ns p e new r) → Steps (as_progress nodes (Some o)) e new r
begins_after order old ended new nodes o p e r st fits l q d h n begins =
    let at = placed e.0 p q in
    let label : IsLabel p.label = label_of p.label at.label in
    let later : Lt o.label p.label = later_label order o.label p.label o.number p.number st.later.1 label fits at.number (ap (below (chunk_key o.label o.number)) at.is ∙ l) d in
    step_begun (as_progress nodes (Some o)) (h.node ∷ nodes) p e new r (λ es. other_chunk nodes o p e es (h.node ∷ nodes) q d h.ended)
    (begins (h.node ∷ nodes) (n ∙ st.number) h.kept (all_before h.node nodes o.label p.label h.label st.later.0 later) label h.way)
