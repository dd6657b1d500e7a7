use Rattle.std.proofs.Common.{arith, ap, ap₂, ◌∙◌, ◌^◌, codes, unwrap_or, refl}
use Rattle.clap.specs.Words.{found_of}
use Rattle.mm_options.specs.declared.options.Options.{Options}
use Rattle.mm_options.proofs.Reading.{flag_found, number_in_range, spells_number}
use Rattle.mm_options.proofs.words.found_options.Goals as goal

pub number-requires : goal.number-requires
number-requires c = spells_number (found_of c.args.matches.now) _ 0 1024 (omega arith) c.requires.slice

pub overflow_cast-result : goal.overflow_cast-result
overflow_cast-result c =
    let slice = c.unwrap_or.ensures ∙ ap₂ unwrap_or c.number.ensures (c.into.ensures ∙ ap (λ (o : Options). o.slice) c.new-standard.ensures) in
    let inside = number_in_range (found_of c.args.matches.now) (codes "slice") 0 1024 8 c.requires.slice (omega arith) (omega arith) in
    rw slice (omega (arith, inside.1))

pub number-requires-2 : goal.number-requires-2
number-requires-2 c = spells_number (found_of c.args.matches.now) _ 1024 (2 ^ 40) (omega arith) c.requires.limit

pub returns-clause-options : goal.returns-clause-options
returns-clause-options c =
    let slice = c.unwrap_or.ensures ∙ ap₂ unwrap_or c.number.ensures (c.into.ensures ∙ ap (λ (o : Options). o.slice) c.new-standard.ensures) in
    let limit = c.unwrap_or-2.ensures ∙ ap₂ unwrap_or c.number-2.ensures (ap (λ (o : Options). o.limit) c.new-standard.ensures) in
    let flag = flag_found (found_of c.args.matches.now) (codes "read-only") _ c.requires.read_only c.get_flag.ensures.none c.get_flag.ensures.value c.get_flag.ensures.other in
    rw (slice, limit, flag, c.number-3.ensures) refl

pub returns-clause-in_range : goal.returns-clause-in_range
returns-clause-in_range c =
    let slice = c.unwrap_or.ensures ∙ ap₂ unwrap_or c.number.ensures (c.into.ensures ∙ ap (λ (o : Options). o.slice) c.new-standard.ensures) in
    let limit = c.unwrap_or-2.ensures ∙ ap₂ unwrap_or c.number-2.ensures (ap (λ (o : Options). o.limit) c.new-standard.ensures) in
    let pages = number_in_range (found_of c.args.matches.now) (codes "slice") 0 1024 8 c.requires.slice (omega arith) (omega arith) in
    let bytes = number_in_range (found_of c.args.matches.now) (codes "limit") 1024 (2 ^ 40) (2 ^ 30) c.requires.limit (omega arith) (omega arith) in
    record { slice = rw slice pages.1; least_limit = rw limit bytes.0; most_limit = rw limit bytes.1 }
