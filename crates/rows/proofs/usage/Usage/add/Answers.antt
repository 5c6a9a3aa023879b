use Rattle.std.proofs.Common.{◌≡◌, ◌<◌, ◌+◌, ◌^◌, ap, arith}
use Rattle.rows.specs.declared.size.Size.{Size}
use Rattle.rows.specs.Sizes.{Cpu, Mem, Disk}
use Rattle.rows.proofs.usage.Usage.add.Goals as goal

pub overflow_add-result : goal.overflow_add-result
overflow_add-result c =
    let small : c.args.self.cpu + c.args.more.cpu < 2 ^ 64 = c.requires Cpu in
    let one : c.self.inside.cpu ≡ c.args.self.cpu = ap (λ (z : Size). z.cpu) c.self.view_is in
    let other : c.more.inside.cpu ≡ c.args.more.cpu = ap (λ (z : Size). z.cpu) c.more.view_is in
    omega (arith, small, one, other)

pub overflow_add-result-2 : goal.overflow_add-result-2
overflow_add-result-2 c =
    let small : c.args.self.mem + c.args.more.mem < 2 ^ 64 = c.requires Mem in
    let one : c.self.inside.mem ≡ c.args.self.mem = ap (λ (z : Size). z.mem) c.self.view_is in
    let other : c.more.inside.mem ≡ c.args.more.mem = ap (λ (z : Size). z.mem) c.more.view_is in
    omega (arith, small, one, other)

pub overflow_add-result-3 : goal.overflow_add-result-3
overflow_add-result-3 c =
    let small : c.args.self.disk + c.args.more.disk < 2 ^ 64 = c.requires Disk in
    let one : c.self.inside.disk ≡ c.args.self.disk = ap (λ (z : Size). z.disk) c.self.view_is in
    let other : c.more.inside.disk ≡ c.args.more.disk = ap (λ (z : Size). z.disk) c.more.view_is in
    omega (arith, small, one, other)
