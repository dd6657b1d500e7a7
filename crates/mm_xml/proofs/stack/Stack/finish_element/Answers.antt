use Rattle.std.specs.Prelude.{Ok, Err, not}
use Rattle.std.specs.List.{list_all}
use Rattle.std.specs.Str.{chars}
use Rattle.std.proofs.lemmas.Result.{err_from_is_err_and}
use Rattle.mm_tree.specs.Characters.{is_space}
use Rattle.mm_xml.specs.Grammar.{End}
use Rattle.mm_xml.specs.Inside.Machine.{text_step, place}
use Rattle.mm_xml.specs.Inside.Builds.{state_of}
use Rattle.mm_xml.proofs.Levels.{text_grows, end_grows, steps_places, moves_places, places_stops, places_then, end_monotone}
use Rattle.mm_xml.proofs.stack.Stack.finish_element.Goals as goal

pub returns-in_err-text : goal.returns-in_err-text
returns-in_err-text c =
    let p = err_from_is_err_and c.from_residual.result c.from_residual.ensures.1 in
    let old = state_of c.args.self.now in
    let moved = text_step old (chars c.args.run.now) in
    rw (p.1, p.2) (places_stops c.in_err-text.field-0.0 moved (λ x. place x (End c.args.name.now)) (end_monotone c.args.name.now) (steps_places {U = Unit {0}} (Err c.in_err-text.field-0.0) (not (list_all is_space (chars c.args.run.now))) old (state_of c.text.new.self) moved (λ s e. text_grows old s (chars c.args.run.now) e) c.in_err-text.ensures))

pub returns : goal.returns
returns c =
    let old = state_of c.args.self.now in
    let mid = state_of c.text.new.self in
    let moved = text_step old (chars c.args.run.now) in
    let led = steps_places {U = Unit {0}} (Ok tt) (not (list_all is_space (chars c.args.run.now))) old mid moved (λ s e. text_grows old s (chars c.args.run.now) e) c.in_ok-text.ensures in
    places_then c.end.result old mid (state_of c.end.new.self) moved (λ x. place x (End c.args.name.now)) led (moves_places c.end.result mid (state_of c.end.new.self) (place mid (End c.args.name.now)) (λ s e. end_grows mid s c.args.name.now e) c.end.ensures)
