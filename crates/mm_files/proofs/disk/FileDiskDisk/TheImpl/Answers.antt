-- The disk tells nothing: what the trait says of its bytes is under a premise that never holds.
use Rattle.mm_files.proofs.disk.FileDiskDisk.TheImpl.Goals as goal

pub len-tells : goal.len-tells
len-tells g c = record {
  len = λ told. absurd told;
  state = λ told. absurd told;
  time = λ told. absurd told;
  cause = c.ensures.cause;
}

pub read-tells : goal.read-tells
read-tells g c = record {
  bytes = λ told. absurd told;
  counted = λ told. absurd told;
  state = λ told. absurd told;
  time = λ told. absurd told;
  cause = c.ensures.cause;
}

pub write_at-tells : goal.write_at-tells
write_at-tells g c = record {
  written = λ told. absurd told;
  in_part = λ told. absurd told;
  near = c.ensures.near;
  too_far = λ told. absurd told;
  too_far_faults = λ told. absurd told;
  time = λ told. absurd told;
  cause = c.ensures.cause;
}

pub sync-tells : goal.sync-tells
sync-tells g c = record {
  durable = λ told. absurd told;
  state = λ told. absurd told;
  time = λ told. absurd told;
  cause = c.ensures.cause;
}
