-- What listing a file answers, and what it leaves in the output.
use Rattle.std.specs.Prelude.{◌≡◌, ℕ, ◌<◌, ◌≤◌, List, length, Some, None, Option, Ok, Err, Result}
use Rattle.messages.specs.declared.refusal.Refusal.TheVariants.{OutputTooShort}
use Rattle.runner.specs.declared.listing.Unlisted.{Unlisted}
use Rattle.runner.specs.declared.listing.Unlisted.TheVariants.{NoMemory, Refused}
use Rattle.runner.specs.Files.{HasHeader}
use Rattle.runner.specs.Listings.{IsListing, ListsFault}
use Rattle.runner.specs.Output.{Holds}

-- an output of so many bytes holds every listing
abbrev pub output_size : ℕ
output_size = 65536

-- the listing and its length, or a refusal or want of memory, and then the output is what it was. Memory is wanted only
-- once the header has been read.
abbrev pub Lists : List ℕ → List ℕ → List ℕ → Result ℕ Unlisted → Type 0
Lists file before after (Ok n) =
    (output_size ≤ length before) × ((text : List ℕ) × IsListing file text × Holds text before after n)
Lists file before after (Err (Refused k)) =
    (length before < output_size) × (k ≡ OutputTooShort) × (after ≡ before)
Lists file before after (Err (NoMemory e)) =
    (output_size ≤ length before) × HasHeader file × (after ≡ before)

-- the header is unlawful, and this is the listing and its length; or it is lawful, and the output is what it was
abbrev pub ListsHeaderFault : List ℕ → List ℕ → List ℕ → Option ℕ → Type 0
ListsHeaderFault file before after (Some n) = (text : List ℕ) × ListsFault file text × Holds text before after n
ListsHeaderFault file before after None = HasHeader file × (after ≡ before)
