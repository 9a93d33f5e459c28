use Rattle.std.proofs.Common.{map, refl, arith}
use Rattle.words.proofs.Puts.{next_item, all_items}
use Rattle.line_writer.specs.Writing.{after_space, named}
use Rattle.line_writer.proofs.put_names.Goals as goal

pub loop-k-preserved : goal.loop-k-preserved
loop-k-preserved g c =
    record {
      writes = next_item after_space (named (map g.T.Named.called c.args.items.now)) _ c.loop-k.k-index 0 c.loop-k-test.true refl c.loop-k.invariant.writes c.put_name.ensures.writes;
      near = omega (arith, c.loop-k.invariant.near, c.put_name.ensures.near);
    }

pub returns-clause-writes : goal.returns-clause-writes
returns-clause-writes g c =
    all_items after_space (named (map g.T.Named.called c.args.items.now)) _ c.loop-k.k-index (omega arith) c.loop-k.invariant.writes
