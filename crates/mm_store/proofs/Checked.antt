-- What a check tells of a forest's image.
use Rattle.std.proofs.Common.{◌≡◌, IsTrue, IfOk, Result, Ok, Err, ap, sym, ◌∙◌}
use Rattle.mm_check.specs.Laws.{SoundIsImage}
use Rattle.mm_check.specs.Verdicts.{Judges}
use Rattle.mm_check.specs.declared.verdict.Verdict.{Verdict}
use Rattle.mm_check.specs.declared.verdict.Verdict.TheVariants.{Sound, Unsound}
use Rattle.mm_host.specs.declared.damage.Fault.{Fault}
use Rattle.mm_image.specs.Image.{image}
use Rattle.mm_image.specs.Laws.{ImagesTellForests}
use Rattle.mm_keeper.specs.Entries.{Entries}
use Rattle.mm_tree.specs.Forests.{is_well_formed}
use Rattle.mm_tree.specs.Numbering.{Labelled}
use Rattle.mm_tree.specs.Trees.{Trees, nodes}

module _ (tell : ImagesTellForests) (sound : SoundIsImage) (m : Entries) (f : Trees Labelled) (well : IsTrue (is_well_formed f)) (is : m ≡ image f) where
  judged : (v : Verdict) → Judges m v → v ≡ Sound (nodes f)
  judged (Sound count) j = ap Sound (j.3 ∙ ap nodes (tell j.0 f j.1 well (sym j.2 ∙ is)))
  judged (Unsound key stored due) j =
      let none = (sound m).0 (record { forest = f; well = well; is = is }) in
      absurd cc

  pub told_sound : (r : Result Verdict Fault) → IfOk r (Judges m) → IfOk r (λ v. v ≡ Sound (nodes f))
  told_sound (Ok v) j = judged v j
  told_sound (Err e) j = tt
