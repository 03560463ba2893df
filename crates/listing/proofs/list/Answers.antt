-- `list` meets its contract: buffer and rows are as `write_listing` leaves them.
use Rattle.listing.proofs.list.Goals as goal

pub returns-in_default : goal.returns-in_default
returns-in_default c =
    record { buffer = c.write_listing.ensures.buffer; rows = c.write_listing.ensures.tokens }

pub returns : goal.returns
returns c =
    record { buffer = c.write_listing.ensures.buffer; rows = c.write_listing.ensures.tokens }
