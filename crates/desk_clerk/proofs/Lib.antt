mod ReplyLemmas
mod ServedLemmas
