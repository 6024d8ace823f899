-- The opcodes that an arm is for: "Opcodes are positions 0 to 104 in `OPCODES`". Those that an arm's own definition names come from there.
use Rattle.std.specs.Prelude.{ℕ}
pub use Rattle.rules_shape.specs.Opcode.{bitcast, reshape, broadcast, permute, pack, unpack}
pub use Rattle.rules_atomic.specs.Arm.{atomic_cas}
pub use Rattle.rules_matrix.specs.Opcodes.{mma_f, mma_fscaled, insert}
pub use Rattle.rules_small.specs.Token.{memory_fence_alias_tko}
pub use Rattle.rules_view.specs.View.{load_view, store_view, atomic_red_view}

abbrev pub add_f : ℕ
add_f = 2

abbrev pub assume : ℕ
assume = 6

abbrev pub atomic_rmw : ℕ
atomic_rmw = 8

abbrev pub exp : ℕ
exp = 23

abbrev pub extract : ℕ
extract = 26

abbrev pub fma : ℕ
fma = 28

abbrev pub f_to_f : ℕ
f_to_f = 30

abbrev pub f_to_i : ℕ
f_to_i = 31

abbrev pub make_partition_view : ℕ
make_partition_view = 48

abbrev pub make_tensor_view : ℕ
make_tensor_view = 49

abbrev pub mma_i : ℕ
mma_i = 56

abbrev pub mul_f : ℕ
mul_f = 58

abbrev pub sub_f : ℕ
sub_f = 85

abbrev pub tan_h : ℕ
tan_h = 88

abbrev pub alloca : ℕ
alloca = 95

abbrev pub make_gather_scatter_view : ℕ
make_gather_scatter_view = 97

abbrev pub make_strided_view : ℕ
make_strided_view = 98

abbrev pub gdc_launch_dependents_tko : ℕ
gdc_launch_dependents_tko = 101

abbrev pub gdc_wait_tko : ℕ
gdc_wait_tko = 102

abbrev pub f_pow_i : ℕ
f_pow_i = 103
