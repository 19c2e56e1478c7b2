use Rattle.std.proofs.Common.{◌∙◌, arith}
use Rattle.std.proofs.lemmas.Bool.Decides.{nat_tests}
use Rattle.grid.specs.Grids.{bytes}
use Rattle.grid.proofs.Rows.{no_next_link, next_in_row}
use Rattle.grid.proofs.grid.look_ups.GridSheet.next_link.Goals as goal

pub returns-then-not-keeps_links : goal.returns-then-not-keeps_links
returns-then-not-keeps_links c =
    let s = c.args.self.now in
    no_next_link s.lengths.left s.lengths.right (bytes s) c.args.left c.args.right (grind (arith, nat_tests))

pub returns-in_err-b : goal.returns-in_err-b
returns-in_err-b c =
    let s = c.args.self.now in
    c.from_residual.ensures
    ∙ next_in_row s.lengths.left s.lengths.right (bytes s) c.args.left c.args.right (grind (arith, nat_tests)) _
    (rw (c.deref.ensures.value, c.place-row.ensures.value, c.max.ensures, c.right.ensures) at c.in_err-b.ensures.first)

pub returns : goal.returns
returns c =
    let s = c.args.self.now in
    rw c.place-row.ensures.value
    (next_in_row s.lengths.left s.lengths.right (bytes s) c.args.left c.args.right (grind (arith, nat_tests)) _
    (rw (c.deref.ensures.value, c.place-row.ensures.value, c.max.ensures, c.right.ensures) at c.in_ok-b.ensures.first))
