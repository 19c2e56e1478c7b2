use Rattle.writer.proofs.LinksFrom.{all_links}
use Rattle.writer.proofs.walk.Links.of.Goals as goal

pub returns : goal.returns
returns g c = all_links _ (g.met.S.Sheet.proper c.args.sheet.now)
