use Rattle.std.proofs.Common.{rules, ◌≡◌, codes, pos, false, ◌-◌, ◌^◌}
use Rattle.std.proofs.lemmas.Result.{IfOk-weaker}
use Rattle.clap.specs.Words.{new_app}
use Rattle.clap.specs.declared.builder.ArgAction.TheVariants.{SetTrue}
use Rattle.clap.specs.declared.builder.value_parser.ValueParser.TheVariants.{Unsigned, Bool as Truth}
use Rattle.mm_options.specs.Options.{long_rule}
use Rattle.mm_options.specs.Inside.Command.{IsArgOf}
use Rattle.mm_options.proofs.Building.{acts, no_args, one_more}
use Rattle.mm_options.proofs.words.kwstore.Goals as goal

pub returns : goal.returns
returns c =
    let pages : c.new.result ≡ record { start = pos 0; end = pos 1024; exhausted = false } = search rules in
    let pages_parser : c.range.result ≡ Unsigned 0 1024 = rw (c.value_parser.ensures, pages, c.new.ensures.start) at c.range.ensures in
    let bytes : c.new-2.result ≡ record { start = pos 1024; end = pos 1099511627776; exhausted = false } = search rules in
    let bytes_parser : c.range-2.result ≡ Unsigned 1024 (2 ^ 40) = rw (c.value_parser-2.ensures, bytes, c.new-2.ensures.start) at c.range-2.ensures in
    let slice : IsArgOf c.long_option-slice.result (long_rule (codes "slice") (Unsigned 0 1024)) = rw pages_parser at c.long_option-slice.ensures in
    let limit : IsArgOf c.long_option-limit.result (long_rule (codes "limit") (Unsigned 1024 (2 ^ 40))) = rw bytes_parser at c.long_option-limit.ensures in
    let truth : IsArgOf c.long_option.result (long_rule (codes "read-only") Truth) = rw c.value_parser-3.ensures at c.long_option.ensures in
    let read_only = acts c.long_option.result _ c.action-read_only.result SetTrue truth c.action-read_only.ensures in
    let sample : IsArgOf c.long_option-sample.result (long_rule (codes "sample") (Unsigned 0 (2 ^ 64 - 1))) = rw c.value_parser-4.ensures at c.long_option-sample.ensures in
    let empty = no_args c.new-3.result (new_app (codes "kwstore")) c.new-3.ensures.app c.new-3.ensures.empty.0 c.new-3.ensures.empty.1 c.new-3.ensures.local in
    let first = one_more c.new-3.result _ c.long_option-slice.result _ c.in_ok-arg.field-0 empty slice c.in_ok-arg.ensures in
    let second = one_more c.in_ok-arg.field-0 _ c.long_option-limit.result _ c.in_ok-arg-2.field-0 first limit c.in_ok-arg-2.ensures in
    let third = one_more c.in_ok-arg-2.field-0 _ c.action-read_only.result _ c.in_ok-arg-3.field-0 second read_only c.in_ok-arg-3.ensures in
    IfOk-weaker c.arg-4.result _ _ (λ whole added. one_more c.in_ok-arg-3.field-0 _ c.long_option-sample.result _ whole third sample added) c.arg-4.ensures
