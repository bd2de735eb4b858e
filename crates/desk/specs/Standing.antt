-- What stands on the desk.
use Rattle.std.specs.Prelude.{Some, None, Option}
use Rattle.announcement.specs.Model.{state_in}
use Rattle.counting.specs.Model.{state_of}
use Rattle.desk.specs.declared.desk.Desk.{Desk}
use Rattle.desk.specs.declared.desk.Desk.TheVariants.{Nothing, Announcing, Counting}
use Rattle.desk.specs.Performs.{Standing, announcement_standing, counting_standing}

abbrev pub standing : Desk → Option Standing
standing Nothing = None
standing (Announcing k) = Some (announcement_standing (state_in k))
standing (Counting k) = Some (counting_standing (state_of k))
