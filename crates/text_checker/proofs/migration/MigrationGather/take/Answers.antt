use Rattle.text_checker.proofs.records.Migration.{gathers_more}
use Rattle.text_checker.proofs.migration.MigrationGather.take.Goals as goal

pub returns : goal.returns
returns c =
    gathers_more c.args.row.now.line c.args.self.now (record { firsts = c.follow.new.firsts; text = c.put_row.new.text })
    c.in_ok-put_row.ensures c.in_ok-follow.ensures
