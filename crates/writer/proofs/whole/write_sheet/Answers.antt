use Rattle.text.proofs.ReadsBack.{reads_back}
use Rattle.writer.proofs.whole.write_sheet.Goals as goal

pub returns-in_err-check_room-clause-reads_back : goal.returns-in_err-check_room-clause-reads_back
returns-in_err-check_room-clause-reads_back g c = reads_back _ (g.met.S.Sheet.proper c.args.sheet.now)

pub returns-clause-reads_back : goal.returns-clause-reads_back
returns-clause-reads_back g c = reads_back _ (g.met.S.Sheet.proper c.args.sheet.now)
