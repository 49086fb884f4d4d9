use Rattle.std.proofs.Common.{sym, ap}
use Rattle.std.specs.List.{join_with_byte}
use Rattle.std.proofs.lemmas.Result.{on_ok_weaker}
use Rattle.type_contexts.specs.Context.{words_by, noise_words, kernel_words}
use Rattle.type_contexts.proofs.print.put_entry.Goals as goal

pub returns-in-Noise : goal.returns-in-Noise
returns-in-Noise c =
    on_ok_weaker c.put_noise.result (λ h. (join_with_byte 32 (noise_words c.args.groups.now c.args.entry.now h.0), (h.0, h.1, ap (λ kind. join_with_byte 32 (words_by kind c.args.form c.args.groups.now c.args.entry.now h.0)) (sym c.in-Noise.is)), h.2)) c.put_noise.ensures

pub returns-in-Kernel : goal.returns-in-Kernel
returns-in-Kernel c =
    on_ok_weaker c.put_kernel.result (λ h. (join_with_byte 32 (kernel_words c.args.form c.args.entry.now h.0), (h.0, h.1, ap (λ kind. join_with_byte 32 (words_by kind c.args.form c.args.groups.now c.args.entry.now h.0)) (sym c.in-Kernel.is)), h.2)) c.put_kernel.ensures
