-- `store` meets its contract: the parts of what it leaves are those of its three calls.
use Rattle.goals.specs.StoringLaws.{names_entered, places_put, store_copyable, store_movable}
use Rattle.goals.proofs.store.Goals as goal

pub copy_goal-requires : goal.copy_goal-requires
copy_goal-requires c =
    let entering = c.enter_names in
    let places = c.put_column.new.numbers in
    let long = c.put_column.auto.numbers in
    let entered = names_entered c.requires entering.new.names entering.auto.names entering.ensures in
    let put = places_put c.requires entering.new.names entering.auto.names entering.ensures places c.put_column.ensures in
    (store_copyable c.requires entered places long put, store_movable c.requires entered places long put)

pub returns : goal.returns
returns c =
    let entering = c.enter_names in
    record {
      entered = names_entered c.requires entering.new.names entering.auto.names entering.ensures;
      places = c.put_column.new.numbers;
      long = c.put_column.auto.numbers;
      put = places_put c.requires entering.new.names entering.auto.names entering.ensures _ c.put_column.ensures;
      is = c.copy_goal.ensures.value;
      written = c.copy_goal.ensures.words_after;
    }
