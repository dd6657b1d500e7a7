use Rattle.std.proofs.Common.{◌≡◌, ◌∙◌, ◌∷◌, ap, refl, subst, sym, None, Some}
use Rattle.mm_tree.specs.Numbering.{Labelled}
use Rattle.mm_tree.specs.Validity.{is_element}
use Rattle.mm_image.specs.Fields.{kind_in}
use Rattle.mm_check.specs.Inside.Path.{path_here}
use Rattle.mm_check.specs.Inside.Reader.{HasEnded, as_open}
use Rattle.mm_check.proofs.Judging.{node_ended, node_unfinished}
use Rattle.mm_check.proofs.Stepping.{kept_more, path_element, path_text}
use Rattle.mm_check.proofs.reader.Reader.end_node.Goals as goal
use Rattle.mm_check.proofs.reader.Reader.end_node.Goals.{in-Element+in_ok-push, in_default-kind}

pub returns-in_default-clause-ends : goal.returns-in_default-clause-ends
returns-in_default-clause-ends c = λ nodes kept before label way.
    let o = as_open c.args.started in
    let none : kind_in o.content ≡ None = sym (c.in_ok-kind.ensures.told ∙ ap kind_in c.as_slice.ensures.value) ∙ c.in_default.is in
    node_unfinished nodes o c.in_ok-named_at_end.field-0 c.args.started.sized.most none c.in_ok-named_at_end.ensures

pub returns-clause-ends : goal.returns-clause-ends
returns-clause-ends c = λ nodes kept before label way.
    let o = as_open c.args.started in
    let kind = c.in-Some.kind in
    let d : Labelled = record { label = o.label; kind = kind } in
    let told : kind_in o.content ≡ Some kind = sym (c.in_ok-kind.ensures.told ∙ ap kind_in c.as_slice.ensures.value) ∙ c.in-Some.is in
    let ended = node_ended nodes o kind told in
    let more = kept_more c.args.self.now.lists c.put_words.new.lists d nodes kept before label c.in_ok-put_words.ensures.lists c.in_ok-put_words.ensures.filled in
    elim c.match-kind-4.branch [
      | in-Element+in_ok-push w ↦
          let path : w.push.new.self ≡ path_here (d ∷ nodes) = w.in_ok-push.ensures.ok ∙ path_element d nodes c.args.self.now.path way (ap is_element w.in-Element.is) in
          subst (HasEnded nodes o) (sym w.self-is) (record { node = d; label = refl; ended = ended; kept = more; way = path })
      | in_default-kind w ↦
          let path : c.args.self.now.path ≡ path_here (d ∷ nodes) = path_text d nodes c.args.self.now.path way (ap is_element w.in_default-kind.is) in
          subst (HasEnded nodes o) (sym w.self-is) (record { node = d; label = refl; ended = ended; kept = more; way = path })
    ]
