-- Laws of the short numbers.
use Rattle.std.specs.Prelude.{◌≡◌, ◌≤◌, pos}
use Rattle.std.specs.Ordering.{nat_cmp, int_cmp}
use Rattle.std.proofs.Common.{lit≤}
use Rattle.test_kit.specs.declared.short_number.Short.{Short}
use Rattle.i_tree.specs.Laws.LayoutNumbers.{nat_cmp-is_int_cmp}

-- the order is that of the whole numbers
pub cmp_is : (first second : Short) → nat_cmp first.value second.value ≡ int_cmp (pos first.value) (pos second.value)
cmp_is first second = nat_cmp-is_int_cmp first.value second.value

pub one_is_some : 1 ≤ 1
one_is_some = lit≤ tt
