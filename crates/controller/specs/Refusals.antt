-- The numbers and places of the controller's refusals.
use Rattle.std.specs.Prelude.{ℕ}
use Rattle.translation.specs.Faults.{ladder_number, ladder_rung, ladder_bit}
use Rattle.listings.specs.Faults.{fault_number, fault_line, fault_byte}
use Rattle.controller.specs.declared.refusal.Refusal.{Refusal}
use Rattle.controller.specs.declared.refusal.Refusal.TheVariants.{SmallBank, FewSignals, NoSuchPoint}
use Rattle.controller.specs.declared.install_fault.InstallFault.{InstallFault}
use Rattle.controller.specs.declared.install_fault.InstallFault.TheVariants as install

-- the number of the refusal of a setting, a reading or a scan
abbrev pub refusal_number : Refusal → ℕ
refusal_number SmallBank = 1
refusal_number FewSignals = 2
refusal_number NoSuchPoint = 15

-- the number of the refusal of an install
abbrev pub install_number : InstallFault → ℕ
install_number install.SmallBank = 1
install_number (install.Card e) = ladder_number e
install_number (install.Listing e) = fault_number e

-- the rung of a card, or the line of a listing; 0 for a small bank
abbrev pub install_rung : InstallFault → ℕ
install_rung install.SmallBank = 0
install_rung (install.Card e) = ladder_rung e
install_rung (install.Listing e) = fault_line e

-- the bit of a card, or the byte of a listing; 0 for a small bank
abbrev pub install_place : InstallFault → ℕ
install_place install.SmallBank = 0
install_place (install.Card e) = ladder_bit e
install_place (install.Listing e) = fault_byte e
