-- The table holds. Assumes nothing.
use mathlib.Core.List.{◌++◌}
use Rattle.witnesses.specs.Table.{AllReached, reading, entering, listing, storing, looking, early, walked, copies, table}
use Rattle.witnesses.proofs.Opened.{join}
use Rattle.witnesses.proofs.Reading.{reading_reached}
use Rattle.witnesses.proofs.Entering.{short_store, bad_store, too_long, cut, paired, version, pass_no_anchor, anchor_no_pass, both_taken, no_issuer, gone_reached, ticket_reached, unpermitted_reached, short_reached, bounded_reached, anchor_unverified, pass_unverified, anchor_installed, pass_admitted}
use Rattle.witnesses.proofs.Full.{anchor_full, pass_full}
use Rattle.witnesses.proofs.Listed.{listing_reached}
use Rattle.witnesses.proofs.Overviews.{storing_reached, looking_reached}
use Rattle.witnesses.proofs.Empty.{early_reached}
use Rattle.witnesses.proofs.Walked.{walked_reached}
use Rattle.witnesses.proofs.Copies.{copies_reached}

entering_reached : AllReached entering
entering_reached = (
  short_store,
  (
    bad_store,
    (
      too_long,
      (
        cut,
        (
          paired,
          (
            version,
            (
              (pass_no_anchor, (anchor_no_pass, tt)),
              (
                (both_taken.0, (both_taken.1, tt)),
                (
                  (no_issuer, tt),
                  (
                    (gone_reached, tt),
                    (
                      (ticket_reached, tt),
                      (
                        (unpermitted_reached, tt),
                        (
                          (short_reached, tt),
                          (
                            (bounded_reached, tt),
                            (
                              (anchor_unverified, (pass_unverified, tt)),
                              (
                                (anchor_full, (pass_full, tt)),
                                (
                                  (anchor_installed, (pass_admitted, tt)),
                                  tt,
                                ),
                              ),
                            ),
                          ),
                        ),
                      ),
                    ),
                  ),
                ),
              ),
            ),
          ),
        ),
      ),
    ),
  ),
)

pub reached : AllReached table
reached =
    join reading (entering ++ (listing ++ (storing ++ (looking ++ (early ++ (walked ++ copies)))))) reading_reached
    (join entering (listing ++ (storing ++ (looking ++ (early ++ (walked ++ copies))))) entering_reached
    (join listing (storing ++ (looking ++ (early ++ (walked ++ copies)))) listing_reached
    (join storing (looking ++ (early ++ (walked ++ copies))) storing_reached
    (join looking (early ++ (walked ++ copies)) looking_reached
    (join early (walked ++ copies) early_reached
    (join walked copies walked_reached copies_reached))))))
