use Rattle.std.proofs.Common.{◌++◌, ap, ◌∙◌, codes}
use Rattle.std.specs.Fmt.{decimal}
use Rattle.mm_sample.specs.Script.{load}
use Rattle.mm_sample.proofs.Pieces.{written}
use Rattle.mm_sample.proofs.commands.push_load.Goals as goal

pub returns-clause-text : goal.returns-clause-text
unfolding load
returns-clause-text c =
    written c.extend_from_slice.result _ _ _ _ c.extend_from_slice.ensures.items
    (c.as_bytes.ensures.value ∙ (c.in_ok-load.ensures.ok ∙ ap (λ t. codes "load\n<doc id=\"d" ++ (decimal c.args.document ++ (codes "\">" ++ (t ++ codes "</doc>\n.\n")))) c.in_ok-sections.ensures.text))
