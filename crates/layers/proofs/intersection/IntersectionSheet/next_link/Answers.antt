use Rattle.std.proofs.Common.{sym, arith}
use Rattle.alignment.proofs.Least.{next_found}
use Rattle.layers.proofs.intersection.IntersectionSheet.next_link.Goals as goal

pub loop-first-smaller : goal.loop-first-smaller
loop-first-smaller g c =
    let s = c.args.self.now in
    let u = next_found (g.P.Sheet.meaning s.first) c.args.left c.loop-first.from c.in_ok-first.first (sym c.in_ok-first.ensures) in
    let v = next_found (g.Q.Sheet.meaning s.second) c.args.left c.in_ok-first.first c.in_ok-second.second (sym c.in_ok-second.ensures) in
    omega (arith, (g.met.Q.Sheet.proper s.second).rights_high)
