-- `put_offsets` meets its contract: a step meets a one, whose offset is written, or none is left.
use mathlib.Core.Path.{ap}
use native.Mathlib.Omega.{arith}
use Rattle.bit_string.specs.declared.BitString.{BitString}
use Rattle.sparse_one_nnd.proofs.Offsets.{off_start, going_on, going_to, going_end}
use Rattle.sparse_one_nnd.proofs.second_pass.put_offsets.Goals as goal

pub loop-place-init : goal.loop-place-init
loop-place-init c =
    record {
      words = ap (λ (s : BitString). s.words.now) c.new-ones.ensures.0;
      len = ap (λ (s : BitString). s.len) c.new-ones.ensures.0;
      offsets = rw c.new-ones.ensures.1 (off_start c.args.ws.now c.args.k c.args.at c.args.bytes.now);
    }

pub overflow_cast-bytes : goal.overflow_cast-bytes
overflow_cast-bytes c = omega (arith, (going_on _ _ _ _ _ _ _ c.requires c.loop-place.invariant _ _ c.next.ensures.0 c.in-Some.ensures).0.0)

pub bounds-bytes-next : goal.bounds-bytes-next
bounds-bytes-next c = (going_on _ _ _ _ _ _ _ c.requires c.loop-place.invariant _ _ c.next.ensures.0 c.in-Some.ensures).0.1

pub overflow_add-next : goal.overflow_add-next
overflow_add-next c = omega (arith, (going_on _ _ _ _ _ _ _ c.requires c.loop-place.invariant _ _ c.next.ensures.0 c.in-Some.ensures).0.1)

pub loop-place-smaller : goal.loop-place-smaller
loop-place-smaller c = (going_to _ _ _ _ _ _ _ c.requires c.loop-place.invariant _ _ c.next.ensures.0 c.in-Some.ensures _ c.next.ensures.1).1

pub loop-place-preserved : goal.loop-place-preserved
loop-place-preserved c = (going_to _ _ _ _ _ _ _ c.requires c.loop-place.invariant _ _ c.next.ensures.0 c.in-Some.ensures _ c.next.ensures.1).0

pub returns : goal.returns
returns c = going_end _ _ _ _ _ _ _ c.requires c.loop-place.invariant _ c.next.ensures.0 c.in_default.ensures
