use Rattle.std.specs.Prelude.{Ok, Err, not, true}
use Rattle.std.specs.List.{list_all}
use Rattle.std.specs.Str.{chars}
use Rattle.std.proofs.lemmas.Result.{err_from_is_err_and}
use Rattle.mm_tree.specs.Characters.{is_space}
use Rattle.mm_xml.specs.Inside.Machine.{text_step, open_step}
use Rattle.mm_xml.specs.Inside.Builds.{state_of}
use Rattle.mm_xml.proofs.Levels.{text_grows, open_grows, steps_places, places_stops, places_then, open_monotone}
use Rattle.mm_xml.proofs.stack.Stack.start.Goals as goal

pub returns-in_err-text : goal.returns-in_err-text
returns-in_err-text c =
    let p = err_from_is_err_and c.from_residual.result c.from_residual.ensures.1 in
    let old = state_of c.args.self.now in
    let moved = text_step old (chars c.args.run.now) in
    rw (p.1, p.2) (places_stops c.in_err-text.field-0.0 moved (λ x. open_step x c.args.empty c.args.kind) (open_monotone c.args.empty c.args.kind) (steps_places {U = Unit {0}} (Err c.in_err-text.field-0.0) (not (list_all is_space (chars c.args.run.now))) old (state_of c.text.new.self) moved (λ s e. text_grows old s (chars c.args.run.now) e) c.in_err-text.ensures))

pub returns : goal.returns
returns c =
    let old = state_of c.args.self.now in
    let mid = state_of c.text.new.self in
    let moved = text_step old (chars c.args.run.now) in
    let led = steps_places {U = Unit {0}} (Ok tt) (not (list_all is_space (chars c.args.run.now))) old mid moved (λ s e. text_grows old s (chars c.args.run.now) e) c.in_ok-text.ensures in
    places_then c.open.result old mid (state_of c.open.new.self) moved (λ x. open_step x c.args.empty c.args.kind) led (steps_places c.open.result true mid (state_of c.open.new.self) (open_step mid c.args.empty c.args.kind) (λ s e. open_grows mid s c.args.empty c.args.kind e) c.open.ensures)
