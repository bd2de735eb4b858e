use Rattle.std.proofs.Common.{refl, arith}
use Rattle.announcement_theory.proofs.Longest.{leads, reaches, longest, ended}
use Rattle.announcement.proofs.keep.AnnouncingEnquiry.declared.Goals as goal

pub returns : goal.returns
returns c = record {
  says = refl;
  paces = record {
    opening = λ since u. refl;
    offering = λ r over. omega arith;
    closing = λ v. refl;
    leads = leads;
    reaches = reaches;
    longest = longest;
    ended = ended;
  };
}
