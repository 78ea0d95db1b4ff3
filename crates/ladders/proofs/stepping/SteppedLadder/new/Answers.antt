use Rattle.std.proofs.Common.{◌≡◌, Ok, Err, Result, IfOk, is_none, sym, ap, subst}
use Rattle.std.specs.Prelude.{List}
use Rattle.ladders.specs.Bands.{in_bands, ladder_fault}
use Rattle.ladders.specs.ByBand.{prices_by_band}
use Rattle.ladders.specs.Descriptions.{bands_decided, taken_decides}
use Rattle.ladders.specs.Faults.{TakenUnless}
use Rattle.ladders.specs.LawfulPrices.{PricesByBand}
use Rattle.ladders.specs.Made.{bands_of}
use Rattle.ladders.specs.declared.bands.Band.{Band}
use Rattle.ladders.specs.declared.faults.LadderFault.{LadderFault}
use Rattle.ladders.specs.declared.stepping.SteppedLadder.{SteppedLadder}
use Rattle.ladders.proofs.stepping.SteppedLadder.new.Goals as goal

-- a ladder that has the bands has their prices
prices_of_taken : (bands : List Band) (r : Result SteppedLadder LadderFault) → TakenUnless (ladder_fault bands) (λ l. bands_of l ≡ bands) r → IfOk r (λ l. PricesByBand bands (in_bands (bands_of l)))
prices_of_taken bands (Ok l) t = subst (PricesByBand bands) (ap in_bands (sym t.1)) (prices_by_band bands ((bands_decided bands).0 (ap is_none t.0)))
prices_of_taken bands (Err f) t = tt

pub returns : goal.returns
returns c =
    let bands = c.args.bands.now in record {
      lawful = taken_decides (ladder_fault bands) _ (λ l. bands_of l ≡ bands) c.checked.result (bands_decided bands) c.checked.ensures;
      made = c.checked.ensures;
      prices = prices_of_taken bands c.checked.result c.checked.ensures;
    }
