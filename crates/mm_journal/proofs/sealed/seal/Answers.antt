use Rattle.std.proofs.Common.{◌∙◌, ◌++◌, [], ℕ, List, ap}
use Rattle.byteorder.specs.Endian.{big_bytes}
use Rattle.sha2.specs.Sha256.{sha256}
use Rattle.mm_journal.proofs.Steps.{sealed-bytes}
use Rattle.mm_journal.proofs.sealed.seal.Goals as goal

pub returns : goal.returns
returns c = sealed-bytes c.args.sort c.args.payload.now _ _ _ _ _ _ _
    (c.write_u64.ensures ∙ ap (λ (n : ℕ). big_bytes 8 n ++ []) c.size_of.ensures.same)
    (c.in_ok-extend_from_slice.ensures.items ∙ ap (λ (l : List ℕ). l ++ c.write_u64.new.buf) c.in_ok-bytes.ensures.items)
    c.in_ok-extend_from_slice-2.ensures.items c.in_ok-extend_from_slice-3.ensures.items (c.digest-digest.ensures ∙ ap sha256 c.as_slice.ensures.value)
    c.in_ok-extend_from_slice-4.ensures.items c.in_ok-extend_from_slice-5.ensures.items c.size_of.ensures.fits
