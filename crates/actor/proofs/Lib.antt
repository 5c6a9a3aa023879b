pub mod ServerAnswers
