use Rattle.controller.proofs.Lending.{scan_part, part_back, scan_refused, listing_part, status_part}
use Rattle.controller.proofs.controller.Controller.answer.Goals as goal

pub returns-in-InstallCard-clause-step : goal.returns-in-InstallCard-clause-step
returns-in-InstallCard-clause-step g c = rw c.in-InstallCard.is (c.install_card.ensures.step c.args.buffer.now)

pub returns-in-InstallListing-clause-step : goal.returns-in-InstallListing-clause-step
returns-in-InstallListing-clause-step g c = rw c.in-InstallListing.is (c.install_listing.ensures.step c.args.buffer.now)

pub returns-in-SetInput-clause-step : goal.returns-in-SetInput-clause-step
returns-in-SetInput-clause-step g c = rw c.in-SetInput.is (c.set_input.ensures.step c.args.buffer.now)

pub returns-in-ReadPoint-clause-step : goal.returns-in-ReadPoint-clause-step
returns-in-ReadPoint-clause-step g c = rw c.in-ReadPoint.is (c.read_point.ensures c.args.buffer.now)

pub returns-in-Scan-clause-step : goal.returns-in-Scan-clause-step
returns-in-Scan-clause-step g c = rw c.in-Scan.is (scan_part _ _ _ _ c.args.work.now _ _ _ c.min.ensures c.scan.ensures.step c.args.buffer.now)

pub returns-in-Scan-clause-work : goal.returns-in-Scan-clause-work
returns-in-Scan-clause-work g c = λ q. part_back c.args.work.now _ _ (scan_refused _ _ _ _ c.scan.result _ c.in-Scan.is q c.scan.ensures.work)

pub returns-in-WriteListing-clause-step : goal.returns-in-WriteListing-clause-step
returns-in-WriteListing-clause-step g c = rw c.in-WriteListing.is (listing_part _ _ _ c.args.buffer.now _ _ _ _ c.min-in-WriteListing.ensures c.write_listing.ensures)

pub returns-in-WriteStatus-clause-step : goal.returns-in-WriteStatus-clause-step
returns-in-WriteStatus-clause-step g c = rw c.in-WriteStatus.is (status_part _ _ _ c.args.buffer.now _ _ _ _ c.min-in-WriteStatus.ensures c.write_status.ensures)
