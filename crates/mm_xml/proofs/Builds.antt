-- The stack of open elements gives the one tree whose brackets the brackets are.
use Rattle.std.proofs.Common.{◌≡◌, ℕ, Bool, true, false, cond, List, [], ◌∷◌, ◌++◌, Some, None, refl, sym, ap, ◌∙◌, append_assoc}
use Rattle.std.specs.Str.{bytes_eq}
use Rattle.std.proofs.lemmas.Slice.Eq.{bytes_eq-Decides}
use Rattle.mm_tree.specs.declared.Kind.{Kind}
use Rattle.mm_tree.specs.Trees.{Trees, none, node, Tree, siblings}
use Rattle.mm_xml.specs.Grammar.{Bracket, Begin, End, end_name, bracketing}
use Rattle.mm_tree.specs.Trees.{one}
use Rattle.mm_xml.specs.Inside.Lexing.{◌>>=◌}
use Rattle.mm_xml.specs.Inside.Machine.{Frame, State, Before, Inside, After, fresh, with_child, frame_tree, closed, place, place_all, finished, build}

-- ---- what is closed completely is read

pub place_all_append : (s : State) (ps qs : List Bracket) → place_all s (ps ++ qs) ≡ (place_all s ps >>= λ x. place_all x qs)
place_all_append s [] qs = refl
place_all_append s (p ∷ ps) qs =
    elim (place s p) as (λ o. (o >>= λ x. place_all x (ps ++ qs)) ≡ ((o >>= λ x. place_all x ps) >>= λ x. place_all x qs)) [
      | None ↦ refl
      | Some x ↦ place_all_append x ps qs
    ]

-- more siblings behind those of a list
abbrev join : List (Tree Kind) → Trees Kind → Trees Kind
join [] ts = ts
join (t ∷ xs) ts = node t.0 t.1 (join xs ts)

abbrev grown : Frame → Trees Kind → Frame
grown f none = f
grown f (node kind inner rest) = grown (with_child f (kind, inner)) rest

siblings_join : (xs : List (Tree Kind)) → siblings xs ≡ join xs none
siblings_join [] = refl
siblings_join (t ∷ xs) = ap (λ r. node t.0 t.1 r) (siblings_join xs)

join_more : (xs : List (Tree Kind)) (t : Tree Kind) (ts : Trees Kind) → join (xs ++ t ∷ []) ts ≡ join xs (node t.0 t.1 ts)
join_more [] t ts = refl
join_more (x ∷ xs) t ts = ap (λ r. node x.0 x.1 r) (join_more xs t ts)

grown_kind : (f : Frame) (ts : Trees Kind) → (grown f ts).kind ≡ f.kind
grown_kind f none = refl
grown_kind f (node kind inner rest) = grown_kind (with_child f (kind, inner)) rest

grown_before : (f : Frame) (ts : Trees Kind) → siblings (grown f ts).before ≡ join f.before ts
grown_before f none = siblings_join f.before
grown_before f (node kind inner rest) = grown_before (with_child f (kind, inner)) rest ∙ join_more f.before (kind, inner) rest

same_name : (n m : List ℕ) → n ≡ m → bytes_eq n m ≡ true
same_name n m e = (bytes_eq-Decides n m).1 e

-- the end tag of what grew closes it
closes : (k : Kind) (inner : Trees Kind) (f : Frame) (fs : List Frame) (ps : List Bracket)
    → place_all (Inside (grown (fresh k) inner) (f ∷ fs)) (End (end_name k) ∷ ps) ≡ place_all (Inside (with_child f (k, inner)) fs) ps
closes k inner f fs ps =
    let same : bytes_eq (end_name k) (end_name (grown (fresh k) inner).kind) ≡ true = same_name _ _ (ap end_name (sym (grown_kind (fresh k) inner))) in
    let tree : frame_tree (grown (fresh k) inner) ≡ (k, inner) = (λ i. (grown_kind (fresh k) inner i, grown_before (fresh k) inner i)) in
    rw (same, tree) refl

complete : (ts : Trees Kind) (f : Frame) (fs : List Frame) (ps : List Bracket) → place_all (Inside f fs) (bracketing ts ++ ps) ≡ place_all (Inside (grown f ts) fs) ps
complete none f fs ps = refl
complete (node k inner rest) f fs ps =
    ap (λ qs. place_all (Inside (fresh k) (f ∷ fs)) qs) (append_assoc (bracketing inner) (End (end_name k) ∷ bracketing rest) ps)
    ∙ complete inner (fresh k) (f ∷ fs) (End (end_name k) ∷ bracketing rest ++ ps)
    ∙ closes k inner f fs (bracketing rest ++ ps)
    ∙ complete rest (with_child f (k, inner)) fs ps

pub build_full : (t : Tree Kind) → build Before (bracketing (one t)) ≡ Some t
build_full t =
    let same : bytes_eq (end_name t.0) (end_name (grown (fresh t.0) t.1).kind) ≡ true = same_name _ _ (ap end_name (sym (grown_kind (fresh t.0) t.1))) in
    let tree : frame_tree (grown (fresh t.0) t.1) ≡ t = (λ i. (grown_kind (fresh t.0) t.1 i, grown_before (fresh t.0) t.1 i)) in
    ap (λ o. o >>= finished) (complete t.1 (fresh t.0) [] (End (end_name t.0) ∷ [])) ∙ rw (same, tree) refl

-- ---- what is read has these brackets

abbrev pending : List Frame → List Bracket
pending [] = []
pending (f ∷ fs) = pending fs ++ (Begin f.kind ∷ bracketing (siblings f.before))

bracketing_more : (xs : List (Tree Kind)) (t : Tree Kind) → bracketing (siblings (xs ++ t ∷ [])) ≡ bracketing (siblings xs) ++ bracketing (one t)
bracketing_more [] t = refl
bracketing_more (x ∷ xs) t =
    ap (λ qs. Begin x.0 ∷ (bracketing x.1 ++ End (end_name x.0) ∷ qs)) (bracketing_more xs t)
    ∙ ap (λ qs. Begin x.0 ∷ qs) (sym (append_assoc (bracketing x.1) (End (end_name x.0) ∷ bracketing (siblings xs)) (bracketing (one t))))

sound_after : (ps : List Bracket) (u t : Tree Kind) → build (After u) ps ≡ Some t → (ps ≡ []) × (u ≡ t)
sound_after [] u t e = (refl, cc)
sound_after (p ∷ ps) u t e = absurd cc

regroup : (p a b : List Bracket) (e : Bracket) (ps : List Bracket) → ((p ++ a) ++ b) ++ (e ∷ ps) ≡ (p ++ (a ++ (b ++ e ∷ []))) ++ ps
regroup p a b e ps = simp append_assoc

-- a state that was moved to behind a test
guard_some : (b : Bool) (s : State) (ps : List Bracket) (t : Tree Kind) → ((cond b (Some s) None >>= λ x. place_all x ps) >>= finished) ≡ Some t → (b ≡ true) × (build s ps ≡ Some t)
guard_some true s ps t e = (refl, e)
guard_some false s ps t e = absurd cc

-- the end tag of the innermost element, where the others are open
sound_closed : (ps : List Bracket) (f : Frame) (fs : List Frame) (t : Tree Kind)
    → ((g : Frame) (gs : List Frame) → build (Inside g gs) ps ≡ Some t → pending (g ∷ gs) ++ ps ≡ bracketing (one t))
    → build (closed (frame_tree f) fs) ps ≡ Some t → pending (f ∷ fs) ++ End (end_name f.kind) ∷ ps ≡ bracketing (one t)
sound_closed ps f [] t more e =
    let a = sound_after ps (frame_tree f) t e in
    rw (a.0, ← a.1) refl
sound_closed ps f (g ∷ gs) t more e =
    let ft = frame_tree f in
    let a = Begin g.kind ∷ bracketing (siblings g.before) in
    let b = Begin f.kind ∷ bracketing (siblings f.before) in
    regroup (pending gs) a b (End (end_name f.kind)) ps
    ∙ ap (λ (qs : List Bracket). (pending gs ++ (Begin g.kind ∷ qs)) ++ ps) (sym (bracketing_more g.before ft))
    ∙ more (with_child g ft) gs e

sound_inside : (ps : List Bracket) (f : Frame) (fs : List Frame) (t : Tree Kind) → build (Inside f fs) ps ≡ Some t → pending (f ∷ fs) ++ ps ≡ bracketing (one t)
sound_inside [] f fs t e = absurd cc
sound_inside (Begin k ∷ ps) f fs t e = sym (append_assoc (pending (f ∷ fs)) (Begin k ∷ []) ps) ∙ sound_inside ps (fresh k) (f ∷ fs) t e
sound_inside (End n ∷ ps) f fs t e =
    let taken = guard_some (bytes_eq n (end_name f.kind)) (closed (frame_tree f) fs) ps t e in
    let same : n ≡ end_name f.kind = (bytes_eq-Decides n (end_name f.kind)).0 taken.0 in
    rw same (sound_closed ps f fs t (λ g gs. sound_inside ps g gs t) taken.1)

pub build_sound : (ps : List Bracket) (t : Tree Kind) → build Before ps ≡ Some t → ps ≡ bracketing (one t)
build_sound [] t e = absurd cc
build_sound (Begin k ∷ ps) t e = sound_inside ps (fresh k) [] t e
build_sound (End n ∷ ps) t e = absurd cc
