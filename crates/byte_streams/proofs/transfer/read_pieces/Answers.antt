use Rattle.std.proofs.Common.{arith, ◌≡◌, ◌++◌, ◌∙◌, take, length-take, length-append, rules, refl}
use Rattle.std.proofs.KnownBytes.{Consumes-nil, Consumes-trans}
use Rattle.std.proofs.lemmas.List.{take-append-le}
use Rattle.byte_streams.proofs.Bytes.{consumed_none}
use Rattle.byte_streams.proofs.transfer.read_pieces.Goals as goal

pub loop-bytes-init : goal.loop-bytes-init
loop-bytes-init g c = record {
  consumed = rw c.new-bytes.ensures.items (Consumes-nil _);
  within = rw c.new-bytes.ensures.items (omega arith);
  kept = refl;
}

pub returns-then-count-eq0-clause-read : goal.returns-then-count-eq0-clause-read
returns-then-count-eq0-clause-read g c =
    let took = rw c.if-count-eq0.true at c.in-Ok.ensures.bytes.0 in
    record {
      taken = consumed_none _ _ _ _ c.read.new.into c.loop-bytes.invariant.consumed took;
      ended = c.in-Ok.ensures.bytes.1 c.if-count-eq0.true (omega (arith, c.read.auto.into, length-take c.min-want.result c.loop-bytes.piece, c.loop-bytes.auto.piece));
      within = omega arith;
    }

pub loop-bytes-preserved : goal.loop-bytes-preserved
loop-bytes-preserved g c =
    let same : c.extend_from_slice.new.self.items ≡ c.loop-bytes.bytes.items ++ take c.in-Ok.count c.read.new.into = search (rules, take-append-le) in
    record {
      consumed = rw same (Consumes-trans _ _ _ _ _ c.loop-bytes.invariant.consumed c.in-Ok.ensures.bytes.0);
      within = rw same (omega (arith, length-append c.loop-bytes.bytes.items (take c.in-Ok.count c.read.new.into), length-take c.in-Ok.count c.read.new.into, c.read.auto.into, length-take c.min-want.result c.loop-bytes.piece));
      kept = c.in-Ok.ensures.cause.kept ∙ c.loop-bytes.invariant.kept;
    }

pub returns-in_err-extend_from_slice-clause-taken : goal.returns-in_err-extend_from_slice-clause-taken
returns-in_err-extend_from_slice-clause-taken g c = record {
  bytes = c.loop-bytes.bytes.items ++ take c.in-Ok.count c.read.new.into;
  taken = Consumes-trans _ _ _ _ _ c.loop-bytes.invariant.consumed c.in-Ok.ensures.bytes.0;
  few = omega (arith, length-append c.loop-bytes.bytes.items (take c.in-Ok.count c.read.new.into), length-take c.in-Ok.count c.read.new.into, c.read.auto.into, length-take c.min-want.result c.loop-bytes.piece);
}
