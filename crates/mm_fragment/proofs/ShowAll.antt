-- What is shown of nodes, from the last to the first.
use Rattle.std.proofs.Common.{◌≡◌, List, [], ◌∷◌, ◌++◌, refl, sym, ap, ap₂, ◌∙◌, map, append_assoc, append-nil}
use Rattle.std.specs.Prelude.{reverse}
use Rattle.std.proofs.lemmas.List.{reverse-append}
use Rattle.mm_match.specs.declared.mark.Mark.{Mark}
use Rattle.mm_tree.specs.declared.fragment.Fragment.{Fragment}
use Rattle.mm_tree.specs.Fragments.{Named, fragment_tree}
use Rattle.mm_fragment.specs.Inside.Piling.{roots}

-- some of the nodes are left, and what is shown of the others stands there, the last of them first
pub record Showing (at : Mark → Named) (nodes left : List Mark) (shown : List Fragment) : Type 0 where
  pub done : List Mark
  pub all : nodes ≡ left ++ done
  pub shows : roots (reverse shown) ≡ map at done

pub showing_first : (at : Mark → Named) (nodes : List Mark) (shown : List Fragment) → shown ≡ [] → Showing at nodes nodes shown
showing_first at nodes shown e = record { done = []; all = sym (append-nil nodes); shows = ap (λ (fs : List Fragment). roots (reverse fs)) e }

pub showing_more : (at : Mark → Named) (nodes left rest : List Mark) (shown more : List Fragment) (m : Mark) (f : Fragment)
    → Showing at nodes left shown → left ≡ rest ++ m ∷ [] → (fragment_tree f).0 ≡ at m → more ≡ shown ++ f ∷ [] → Showing at nodes rest more
showing_more at nodes left rest shown more m f g e s k = record {
  done = m ∷ g.done;
  all = g.all ∙ ap (λ (r : List Mark). r ++ g.done) e ∙ append_assoc rest (m ∷ []) g.done;
  shows = ap (λ (fs : List Fragment). roots (reverse fs)) k ∙ ap roots (reverse-append shown (f ∷ [])) ∙ ap₂ (λ (d : Named) (ds : List Named). d ∷ ds) s g.shows;
}

pub showing_ended : (at : Mark → Named) (nodes left : List Mark) (shown turned : List Fragment) → Showing at nodes left shown → left ≡ [] → turned ≡ reverse shown → roots turned ≡ map at nodes
showing_ended at nodes left shown turned g e k = ap roots k ∙ g.shows ∙ ap (map at) (sym (g.all ∙ ap (λ (r : List Mark). r ++ g.done) e))

pub none_shown : (fs : List Fragment) → roots fs ≡ [] → fs ≡ []
none_shown [] e = refl
none_shown (f ∷ fs) e = absurd cc
