-- What is proved of install and admit. Assumes nothing.
use Rattle.admission.specs.Laws.{Laws}
use Rattle.order.proofs.Steps.{refuses_at}
use Rattle.entries.proofs.Kept.{kept_of_lem}
use Rattle.admission.specs.Order.{issuer_steps}
use Rattle.entries.proofs.Whole.{whole_of}
use Rattle.admission.proofs.Exactly.{installed_exactly, admitted_exactly, refused_first, refused_keeps}
use Rattle.admission.proofs.After.{filled_kept, one_more, stays_valid}

pub laws : Laws
laws =
    record {
      kept = λ s c o e. kept_of_lem s c o (whole_of s c o e).standing;
      whole = whole_of;
      installed_exactly = installed_exactly;
      admitted_exactly = admitted_exactly;
      refused_first = refused_first;
      issuer_first = λ anchor store r k z. refuses_at (issuer_steps anchor store r) k z;
      refused_keeps = refused_keeps;
      filled_kept = filled_kept;
      one_more = one_more;
      stays_valid = stays_valid;
    }
