use Rattle.guide_laws.proofs.FitLaws.{fits_are_told}
use Rattle.guide_laws.proofs.laws.fits_are_told.Goals as goal

pub returns : goal.returns
returns c = fits_are_told
