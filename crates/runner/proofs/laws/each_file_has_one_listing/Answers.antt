use Rattle.runner.proofs.SameListing.{one_listing}
use Rattle.runner.proofs.laws.each_file_has_one_listing.Goals as goal

pub returns : goal.returns
returns c = one_listing
