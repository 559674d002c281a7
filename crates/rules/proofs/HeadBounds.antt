-- What becomes of a head's record keeps it in bounds.
use Rattle.std.proofs.Common.{◌≡◌, ℕ, ◌+◌, ◌<◌, ◌≤◌, false, cond, arith, min, refl}
use Rattle.parts.specs.declared.types.Cause.{Cause}
use Rattle.parts.specs.declared.types.Mode.{Mode}
use Rattle.parts.specs.declared.types.Mode.TheVariants as mode
use Rattle.rules.specs.declared.limits.TheConstants.{SLOTS, MOST_ATTEMPTS}
use Rattle.rules.specs.declared.types.Head.{Head}
use Rattle.rules.specs.declared.types.Snapshot.{Snapshot}
use Rattle.rules.specs.declared.types.State.TheVariants.{Idle, WritingBack}
use Rattle.rules.specs.Heads.{is_hardware, is_writing_back, new_head, abort, with_transaction, begin, stores_after}
use Rattle.rules.specs.Bounds.{HeadBounds}
use Rattle.rules.proofs.Records.{become, wrote, resnap, read_more, wrote_more, cancel}
use Rattle.rules.proofs.Basics.{by-test}

pub new-bounds : HeadBounds new_head
new-bounds = record {
  reads = omega arith;
  writes = omega arith;
  hardware_aborts = omega arith;
  attempts = omega arith;
  stores = omega arith;
  written = omega arith;
  unfinished = omega arith;
}

module _ (h : Head) (p : HeadBounds h) where
  pub open-bounds : (n : ℕ) (s : Snapshot) → HeadBounds (begin mode.Hardware s (with_transaction n h))
  open-bounds n s = record {
    reads = omega arith;
    writes = omega arith;
    hardware_aborts = omega arith;
    attempts = omega arith;
    stores = omega arith;
    written = p.written;
    unfinished = omega arith;
  }

  pub abort-bounds : (cause : Cause) → HeadBounds (abort cause h)
  abort-bounds cause = record {
    reads = omega arith;
    writes = omega arith;
    hardware_aborts =
        by-test (is_hardware h.state) (λ b. h.hardware_aborts + cond b 1 0 ≤ h.attempts → cond b (h.hardware_aborts + 1) h.hardware_aborts + 0 ≤ h.attempts)
        (λ _ le. omega arith) (λ _ le. omega arith) p.hardware_aborts;
    attempts = p.attempts;
    stores = p.stores;
    written = p.written;
    unfinished = omega arith;
  }

  -- a head that is not writing back has no slot left to push
  module _ (x : Head) (reads : x.read_count ≤ SLOTS) (writes : x.write_count ≤ SLOTS) (aborts : x.hardware_aborts + cond (is_hardware x.state) 1 0 ≤ x.attempts)
      (attempts : x.attempts ≤ MOST_ATTEMPTS) (stores : x.stores ≤ 65_535) (written : x.written ≤ SLOTS) where
    plain-bounds : is_writing_back x.state ≡ false → HeadBounds x
    plain-bounds f = record {
      reads = reads;
      writes = writes;
      hardware_aborts = aborts;
      attempts = attempts;
      stores = stores;
      written = written;
      unfinished = rw f (omega arith);
    }

  pub begin-bounds : (m : Mode) (s : Snapshot) → h.attempts < MOST_ATTEMPTS → HeadBounds (begin m s h)
  begin-bounds mode.Hardware s lt = plain-bounds _ (omega arith) (omega arith) (omega (arith, p.hardware_aborts)) (omega arith) (omega arith) p.written refl
  begin-bounds mode.Software s lt = plain-bounds _ (omega arith) (omega arith) (omega (arith, p.hardware_aborts)) (omega arith) (omega arith) p.written refl

  pub idle-bounds : (n : ℕ) → n ≤ SLOTS → HeadBounds (become Idle (wrote n h))
  idle-bounds n le = plain-bounds _ p.reads p.writes (omega (arith, p.hardware_aborts)) p.attempts p.stores le refl

  pub back-bounds : (n : ℕ) → n < h.write_count → HeadBounds (become WritingBack (wrote n h))
  back-bounds n lt = record {
    reads = p.reads;
    writes = p.writes;
    hardware_aborts = omega (arith, p.hardware_aborts);
    attempts = p.attempts;
    stores = p.stores;
    written = omega (arith, p.writes);
    unfinished = omega arith;
  }

  pub cancel-bounds : HeadBounds (cancel h)
  cancel-bounds = plain-bounds _ (omega arith) (omega arith) (omega (arith, p.hardware_aborts)) p.attempts p.stores p.written refl

  pub resnap-bounds : (s : Snapshot) → HeadBounds (resnap s h)
  resnap-bounds s = record {
    reads = p.reads;
    writes = p.writes;
    hardware_aborts = p.hardware_aborts;
    attempts = p.attempts;
    stores = p.stores;
    written = p.written;
    unfinished = p.unfinished;
  }

  pub read-bounds : (n : ℕ) → n ≤ SLOTS → HeadBounds (read_more n h)
  read-bounds n le = record {
    reads = le;
    writes = p.writes;
    hardware_aborts = p.hardware_aborts;
    attempts = p.attempts;
    stores = p.stores;
    written = p.written;
    unfinished = p.unfinished;
  }

  few-stores : stores_after h.state h.stores ≤ 65_535
  few-stores = by-test (is_hardware h.state) (λ b. cond b (min (h.stores + 1) 65_535) h.stores ≤ 65_535) (λ _. omega arith) (λ _. p.stores)

  -- a head that writes is not writing back
  pub write-bounds : (n : ℕ) → n ≤ SLOTS → is_writing_back h.state ≡ false → HeadBounds (wrote_more n h)
  write-bounds n le f = plain-bounds _ p.reads le p.hardware_aborts p.attempts few-stores p.written f
