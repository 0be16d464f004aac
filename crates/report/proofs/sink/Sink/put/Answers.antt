-- `report::Sink::put` meets its contract. Assumes nothing.
use mathlib.Core.Path.{refl}
use borrow.Author.Rules.{rules}
use Rattle.report.proofs.Laws.Putting.{put_in, put_out}
use Rattle.report.proofs.sink.Sink.put.Goals as goal

pub returns-then-n-self : goal.returns-then-n-self
returns-then-n-self c =
    record {
      put =
          put_in _ _ _ _ _ _ _ (search rules) (search rules) c.write_pair.ensures c.write_pair-then-n-self.ensures c.write_pair-then-n-self-2.ensures
          c.write_pair-then-n-self-3.ensures;
      same_reference = refl;
    }

pub returns : goal.returns
returns c = record { put = put_out _ _ _ _ c.if-n-self.false c.one_more-self.ensures; same_reference = refl }
