use Rattle.std.proofs.Common.{sym, arith}
use Rattle.alignment.proofs.Least.{next_found}
use Rattle.turned.proofs.Last.{middle, halved_up, halved_down, halved_last}
use Rattle.turned.proofs.mirrored.Mirrored.last_link.Goals as goal

pub loop-low-smaller-then-word-high : goal.loop-low-smaller-then-word-high
loop-low-smaller-then-word-high g c =
    let at = next_found (g.S.Sheet.meaning c.args.self.now.below) c.args.left (middle c.loop-low.low c.loop-low.high) c.in-Some.word (sym c.in-Some.ensures) in
    omega arith

pub loop-low-preserved-then-word-high : goal.loop-low-preserved-then-word-high
loop-low-preserved-then-word-high g c =
    halved_up c.loop-low.invariant (g.met.S.Sheet.proper c.args.self.now.below) (omega arith) c.in-Some.word c.in-Some.ensures (omega arith)

pub loop-low-preserved : goal.loop-low-preserved
loop-low-preserved g c =
    halved_down c.loop-low.invariant (g.met.S.Sheet.proper c.args.self.now.below) (omega arith) c.next_link.result c.next_link.ensures (λ w e. grind arith)

pub returns : goal.returns
returns g c = halved_last c.loop-low.invariant (omega arith)
