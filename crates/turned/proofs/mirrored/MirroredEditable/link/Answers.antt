use Rattle.std.proofs.Common.{arith}
use Rattle.std.proofs.lemmas.Bool.Decides.{nat_tests}
use Rattle.sheet.proofs.Turns.{turn_linking_mirrored}
use Rattle.turned.proofs.mirrored.MirroredEditable.link.Goals as goal

pub returns-clause-done : goal.returns-clause-done
returns-clause-done g c =
    let below = c.args.self.now.below in
    let turned = turn_linking_mirrored (g.S.Editable.state below) c.args.left c.args.right in
    grind (arith, nat_tests, g.met.S.Editable.means below)
