use Rattle.std.proofs.Common.{refl, ap, ◌∙◌, ◌++◌}
use Rattle.mm_xml.specs.Writing.{tag_front}
use Rattle.mm_xml.proofs.WriterFacts.{begun, begun_turns}
use Rattle.mm_xml.proofs.writer.Writer.node.Goals as goal

pub returns-in_ok-push-in-Element-3-clause-whole : goal.returns-in_ok-push-in-Element-3-clause-whole
returns-in_ok-push-in-Element-3-clause-whole c =
    begun c.args.node.now c.in-Element.name c.args.self.now.out.items _ _ c.in-Element.attributes c.as_slice-in-Element.result.now _ c.args.self.now.tasks.items _ _ _ _ c.in-Element.is c.as_slice-in-Element.ensures c.is_empty.ensures c.if-is_empty.false (c.in_ok-put_tag_front-in-Element.ensures ∙ ap (λ xs. c.args.self.now.out.items ++ tag_front c.in-Element.name xs) c.as_slice.ensures) c.in_ok-push-in-Element.ensures.items c.in_ok-push-in-Element-2.ensures.items c.in_ok-push-in-Element-3.ensures.items refl refl

pub returns-in_ok-push-in-Element-3-clause-turns : goal.returns-in_ok-push-in-Element-3-clause-turns
returns-in_ok-push-in-Element-3-clause-turns c = begun_turns c.args.node.now c.as_slice-in-Element.result.now c.args.self.now.tasks.items _ _ _ _ c.as_slice-in-Element.ensures c.in_ok-push-in-Element-2.ensures.items c.in_ok-push-in-Element-3.ensures.items refl refl
