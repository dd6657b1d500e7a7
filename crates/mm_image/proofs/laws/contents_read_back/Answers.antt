use Rattle.mm_image.proofs.Contents.{content_read, read_content}
use Rattle.mm_image.proofs.laws.contents_read_back.Goals as goal

pub returns : goal.returns
returns c = record {
  told = content_read;
  whole = λ bytes kind a e. let t = read_content bytes kind a e in (t.is, t.good);
}
