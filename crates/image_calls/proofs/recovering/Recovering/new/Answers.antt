use Rattle.std.proofs.Common.{refl, ◌∙◌, sym}
use Rattle.image_calls.proofs.recovering.Recovering.new.Goals as goal

pub returns : goal.returns
returns c =
    let begun = c.begin.ensures in
    let starts = c.new.ensures in record {
      sectors_are = refl;
      until_is = refl;
      begins = λ m sized whole. record {
        first = c.begin.result;
        began = c.new.result.carried.sector;
        running = starts.begins m (begun.of.0 ∙ sym sized) whole;
        held = (begun.of.1, begun.held m c.new.result.carried.sector);
      };
    }
